use Rattle.std.proofs.Common.{◌≡◌, ◌++◌, Some, refl, ap, ◌∙◌}
use Rattle.std.specs.Option.{option_copied, option_map}
use Rattle.std.proofs.lemmas.List.Folds.{find-append}
use Rattle.photo_device.specs.Held.{entry_of, find_version_of}
use Rattle.photo_device.proofs.Shown.{found_shown}
use Rattle.photo_device.proofs.device.Device.held_of.Goals as goal

pub returns-in-Some : goal.returns-in-Some
returns-in-Some c =
    let found : Some c.in-Some.held.now ≡ find_version_of c.args.picture c.args.version (c.args.self.now.store ++ c.args.self.now.out) =
    rw (← c.self.view_is) (rw (find-append, ← c.in-Some.ensures) refl) in
    record { held = found; shows = λ m shows. ap (option_map entry_of) found ∙ found_shown c.args.self.now m _ _ shows }

pub returns-in-None : goal.returns-in-None
returns-in-None c =
    let found : option_copied c.of-in-None.result ≡ find_version_of c.args.picture c.args.version (c.args.self.now.store ++ c.args.self.now.out) =
    rw (← c.self.view_is) (rw (find-append, ← c.in-None.ensures) c.of-in-None.ensures) in
    record { held = found; shows = λ m shows. ap (option_map entry_of) found ∙ found_shown c.args.self.now m _ _ shows }
