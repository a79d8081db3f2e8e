use Rattle.std.proofs.Common.{sym, ◌∙◌}
use Rattle.fleet_audit.proofs.Lists.{found_has}
use Rattle.fleet_audit.proofs.kept.is_held.Goals as goal

pub returns-then-is_found : goal.returns-then-is_found
returns-then-is_found c =
    let held = c.args.held.now in
    c.if-is_found.true ∙ sym (found_has held.picture held.version c.args.devices.now (sym c.is_found.ensures ∙ c.if-is_found.true))
