use Rattle.std.proofs.Common.{◌≡◌, map}
use Rattle.std.specs.Prelude.{string_bytes}
use Rattle.photo_script.specs.Reports.{answer_of}
use Rattle.live_script.proofs.Texts.{first_texts}
use Rattle.live_script.proofs.plain.reports_text.Given as goal

-- the texts of the reports so far stand there
abbrev pub invariant-loop-report : goal.invariant-loop-report
invariant-loop-report l = record {
  number : l.number ≡ l.report-index;
  texts : string_bytes l.text ≡ first_texts l.script l.report-index (map answer_of l.reports);
}
