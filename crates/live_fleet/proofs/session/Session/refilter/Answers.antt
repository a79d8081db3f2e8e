use Rattle.std.proofs.Common.{rules, ◌≡◌}
use Rattle.std.specs.Prelude.{Err}
use Rattle.fleet_model.specs.declared.command.Command.TheVariants.{Refilter}
use Rattle.live_fleet.specs.Faults.{IsDueTo}
use Rattle.live_fleet.proofs.Due.{passed_on}
use Rattle.live_fleet.proofs.session.Session.refilter.Goals as goal

pub returns-in_err-check-clause-refused : goal.returns-in_err-check-clause-refused
returns-in_err-check-clause-refused c =
    let was : c.check.result ≡ Err c.in_err-check.field-0.0 = search rules in
    let is : c.from_residual.result ≡ Err c.in_err-check.field-0.0 = search rules in
    passed_on (IsDueTo (Refilter c.args.device c.args.filter.now) c.args.self.now) c.check.result c.from_residual.result c.in_err-check.field-0.0 was is c.check.ensures.refused
