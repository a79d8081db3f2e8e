use Rattle.std.proofs.Common.{ap, ◌∙◌, subst}
use Rattle.photo_device.specs.declared.held.Held.{Held}
use Rattle.photo_model.specs.declared.place.Place.{Place}
use Rattle.photo_device.specs.Own.{HasMade}
use Rattle.photo_model.specs.Device.{made, place_for}
use Rattle.photo_device.specs.Device.{Kept, Shows}
use Rattle.photo_device.proofs.Shown.{shows_made}
use Rattle.photo_device.proofs.Staged.{shows_unstaged}
use Rattle.photo_device.proofs.device.Device.make.Goals as goal

pub returns-clause-shows : goal.returns-clause-shows
returns-clause-shows c = λ m shows.
    let before = shows_unstaged _ _ m c.unstage.ensures shows in
    let place = c.place_of-place.ensures ∙ ap (λ (d : Kept). place_for d.tree c.args.content.now) c.self.view_is in
    let made_it = subst (λ (p : Place). HasMade p c.in_ok-shared.shared c.unstage.new.self c.add.new.self) place c.in_ok-add.ensures.ok in
    subst (λ (h : Held). Shows c.add.new.self (made m h.picture c.args.content.now)) c.in_ok-shared.ensures
    (shows_made c.unstage.new.self _ m _ _ (ap (λ (h : Held). h.content) c.in_ok-shared.ensures ∙ c.in_ok-try_clone.ensures) made_it before)
