use Rattle.std.proofs.Common.{◌++◌, ◌∙◌}
use Rattle.photo_device.specs.Held.{find_version_of}
use Rattle.fleet_audit.proofs.Lists.{some_found, found_by_picture}
use Rattle.fleet_audit.proofs.kept.finds.Goals as goal

pub returns : goal.returns
returns c =
    let held = c.args.held.now in
    let helds = c.args.device.now.store ++ c.args.device.now.out in
    c.is_some.ensures ∙ some_found c.held_of.result (find_version_of held.picture held.version helds) c.held_of.ensures.held ∙ found_by_picture held.picture held.version helds
