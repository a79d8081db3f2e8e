use Rattle.std.proofs.Common.{◌++◌, ◌∙◌}
use Rattle.photo_device.specs.Held.{find_version}
use Rattle.fleet_audit.proofs.Lists.{some_found, has_by_version}
use Rattle.fleet_audit.proofs.kept.has.Goals as goal

pub returns : goal.returns
returns c =
    let version = c.args.held.now.version in
    let helds = c.args.device.now.store ++ c.args.device.now.out in
    c.is_some.ensures ∙ some_found c.held.result (find_version version helds) c.held.ensures ∙ has_by_version version helds
