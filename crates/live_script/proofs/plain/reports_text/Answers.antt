use Rattle.std.proofs.Common.{arith}
use Rattle.photo_script.specs.Reports.{answer_of, IsAbout}
use Rattle.photo_script.proofs.Listing.{all_map_at}
use Rattle.live_script.proofs.Texts.{report_added}
use Rattle.live_script.proofs.plain.reports_text.Goals as goal

pub push_report-requires : goal.push_report-requires
push_report-requires c =
    all_map_at (IsAbout c.args.script.now) answer_of c.args.reports.now c.loop-report.report-index c.report-item.result c.requires.about (omega arith) c.report-item.is

pub loop-report-preserved : goal.loop-report-preserved
loop-report-preserved c = record {
  number = omega arith;
  texts = report_added c.args.script.now c.loop-report.number c.loop-report.report-index c.args.reports.now c.report-item.result _ _ (omega arith) c.report-item.is c.loop-report.invariant.number
      c.in_ok-push_report.ensures c.loop-report.invariant.texts;
}
