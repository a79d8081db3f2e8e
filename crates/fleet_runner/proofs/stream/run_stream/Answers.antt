use Rattle.std.proofs.Common.{List, map, sym, subst, Ok, ◌≡◌, ◌∙◌}
use Rattle.std.specs.Prelude.{IfSome}
use Rattle.std.specs.Arc.{arc_value}
use Rattle.std.specs.List.{AllByRecursion}
use Rattle.fleet_model.specs.Contents.{Contents}
use Rattle.script_reader.specs.Reading.{script_of}
use Rattle.photo_script.specs.declared.report.Report.{Report}
use Rattle.photo_script.specs.Reports.{answer_of, IsAbout}
use Rattle.fleet_steps.specs.Outcomes.{AreRight}
use Rattle.fleet_runner.proofs.Streams.{nothing_first, some_first}
use Rattle.fleet_runner.proofs.stream.run_stream.Goals as goal

pub returns-in_err-script-2-clause-first : goal.returns-in_err-script-2-clause-first
returns-in_err-script-2-clause-first g c = λ e. nothing_first c.script_read.ensures.sound _ _ c.in_ok-script.script c.in_ok-script.ensures.read

pub returns-in_err-outcome-clause-first : goal.returns-in_err-outcome-clause-first
returns-in_err-outcome-clause-first g c = λ e. nothing_first c.script_read.ensures.sound _ _ c.in_ok-script.script c.in_ok-script.ensures.read

pub write_reports-requires-clause-about : goal.write_reports-requires-clause-about
write_reports-requires-clause-about g c =
    let of_slice = subst (λ (reports : List Report). AllByRecursion (IsAbout (arc_value c.in_ok-script-2.script)) (map answer_of reports)) (sym c.as_slice.ensures.value) c.in_ok-outcome.ensures.ok.about in
    subst (λ (script : Contents). AllByRecursion (IsAbout script) (map answer_of c.as_slice.result.now)) (sym c.deref.ensures) of_slice

pub returns-clause-first : goal.returns-clause-first
returns-clause-first g c = λ e.
    let of_slice = subst (λ (reports : List Report). AreRight (arc_value c.in_ok-script-2.script) (map answer_of reports)) (sym c.as_slice.ensures.value) c.in_ok-outcome.ensures.ok.reports in
    let right = subst (λ (script : Contents). AreRight script (map answer_of c.as_slice.result.now)) (sym c.deref.ensures) of_slice in
    let is : c.deref.result.now ≡ c.in_ok-script.script = c.deref.ensures ∙ c.in_ok-script-2.ensures.ok in
    let read = subst (λ (script : Contents). IfSome (g.R.Read.remaining c.args.reader.now) (λ bytes. script_of bytes ≡ Ok script)) (sym is) c.in_ok-script.ensures.read in
    some_first c.script_read.ensures.sound _ _ _ c.deref.result.now (map answer_of c.as_slice.result.now) read right (c.write_reports.ensures.first e)
