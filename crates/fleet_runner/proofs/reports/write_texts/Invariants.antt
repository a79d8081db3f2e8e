use Rattle.std.proofs.Common.{◌≡◌, map}
use Rattle.std.specs.Io.KnownBytes.{Appends}
use Rattle.photo_script.specs.Reports.{answer_of}
use Rattle.fleet_runner.proofs.Texts.{first_texts}
use Rattle.fleet_runner.proofs.reports.write_texts.Given as goal

-- the texts of the reports so far have been written
abbrev pub invariant-loop-report : goal.invariant-loop-report
invariant-loop-report g l = record {
  number : l.number ≡ l.report-index;
  written : Appends (g.W.Write.contents l.fn.writer) (g.W.Write.contents l.writer) (first_texts l.script l.report-index (map answer_of l.reports));
}
