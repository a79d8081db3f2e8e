use Rattle.std.proofs.Common.{◌∙◌, arith}
use Rattle.photo_script.specs.Reports.{answer_of, IsAbout}
use Rattle.photo_script.proofs.Listing.{all_map_at}
use Rattle.fleet_runner.proofs.Texts.{report_written, report_cut}
use Rattle.fleet_runner.proofs.reports.write_texts.Goals as goal

pub push_report-requires : goal.push_report-requires
push_report-requires g c =
    all_map_at (IsAbout c.args.script.now) answer_of c.args.reports.now c.loop-report.report-index c.report-item.result c.requires.about (omega arith) c.report-item.is

pub loop-report-preserved : goal.loop-report-preserved
loop-report-preserved g c = record {
  number = omega arith;
  written = report_written _ (g.W.Write.contents c.loop-report.writer) (g.W.Write.contents c.write_text.new.writer) c.args.script.now c.loop-report.number c.loop-report.report-index
      c.args.reports.now c.report-item.result _ (omega arith) c.report-item.is c.loop-report.invariant.number (c.as_bytes.ensures.value ∙ rw c.clear.ensures.bytes at c.in_ok-push_report.ensures) c.loop-report.invariant.written
      c.in_ok-write_text.ensures.written;
}

pub returns-in_err-write_text-clause-front : goal.returns-in_err-write_text-clause-front
returns-in_err-write_text-clause-front g c = λ e.
    report_cut _ (g.W.Write.contents c.loop-report.writer) (g.W.Write.contents c.write_text.new.writer) c.args.script.now c.loop-report.number c.loop-report.report-index c.args.reports.now
    c.report-item.result _ (omega arith) c.report-item.is c.loop-report.invariant.number (c.as_bytes.ensures.value ∙ rw c.clear.ensures.bytes at c.in_ok-push_report.ensures) c.loop-report.invariant.written c.in_err-write_text.ensures.front
