use Rattle.std.proofs.Common.{rules, ◌≡◌, ℕ, List, map, sym, subst, inr}
use Rattle.photo_batcher.specs.Orders.{IsLawful}
use Rattle.photo_script.specs.declared.report.Report.{Report}
use Rattle.photo_script.specs.Reports.{answer_of}
use Rattle.fleet_steps.specs.Outcomes.{AreRight}
use Rattle.fleet_runner.proofs.Replayed.{some_printed}
use Rattle.fleet_runner.proofs.order_streams.replay_stream.Goals as goal

pub returns-clause-first : goal.returns-clause-first
returns-clause-first g c = λ e.
    let outcome = c.in_ok-outcome.ensures in
    let right = subst (λ (reports : List Report). AreRight c.in_ok-script.script (map answer_of reports)) (sym c.as_slice.ensures.value) outcome.ok.reports in
    let numbers : c.deref.result.now ≡ c.args.order.items = search rules in
    let lawful = subst (λ (order : List ℕ). IsLawful c.in_ok-script.script order) numbers outcome.lawful in
    inr (some_printed _ _ _ c.in_ok-script.script c.args.order.items (map answer_of c.as_slice.result.now)
    (record { read = c.in_ok-script.ensures.read; lawful = lawful; sound = outcome.ok.sound; right = right }) (c.write_reports.ensures.first e))
