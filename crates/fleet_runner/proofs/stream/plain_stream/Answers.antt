use Rattle.std.proofs.Common.{List, map, sym, subst}
use Rattle.std.proofs.lemmas.Result.{IfErr-weaker}
use Rattle.photo_script.specs.declared.report.Report.{Report}
use Rattle.photo_script.specs.Reports.{answer_of}
use Rattle.fleet_steps.specs.Outcomes.{AreRight}
use Rattle.fleet_runner.proofs.Streams.{nothing_first, some_first, of_plain_run}
use Rattle.fleet_runner.proofs.stream.plain_stream.Goals as goal

pub returns-in_err-outcome-clause-first : goal.returns-in_err-outcome-clause-first
returns-in_err-outcome-clause-first g c = λ e. nothing_first c.script_read.ensures.sound _ _ c.in_ok-script.script c.in_ok-script.ensures.read

pub returns-clause-first : goal.returns-clause-first
returns-clause-first g c = λ e.
    let right = subst (λ (reports : List Report). AreRight c.in_ok-script.script (map answer_of reports)) (sym c.as_slice.ensures.value) c.in_ok-outcome.ensures.ok.reports in
    some_first c.script_read.ensures.sound _ _ _ c.in_ok-script.script (map answer_of c.as_slice.result.now) c.in_ok-script.ensures.read right (c.write_reports.ensures.first e)

pub returns-clause-err : goal.returns-clause-err
returns-clause-err g c = IfErr-weaker c.write_reports.result _ _ of_plain_run c.write_reports.ensures.err
