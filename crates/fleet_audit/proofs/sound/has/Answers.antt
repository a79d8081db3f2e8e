use Rattle.std.proofs.Common.{sym, ◌∙◌}
use Rattle.photo_device.specs.Held.{find_version}
use Rattle.fleet_audit.proofs.Lists.{some_found, has_by_picture, has_by_version}
use Rattle.fleet_audit.proofs.sound.has.Goals as goal

pub returns-then-has : goal.returns-then-has
returns-then-has c =
    let held = c.args.held.now in
    c.if-has.true ∙ sym (has_by_picture held.picture held.version c.args.store.now (sym c.has.ensures ∙ c.if-has.true))

pub returns-else-has : goal.returns-else-has
returns-else-has c =
    let version = c.args.held.now.version in
    c.is_some.ensures ∙ some_found c.find.result (find_version version c.args.store.now) c.find.ensures ∙ has_by_version version c.args.store.now
