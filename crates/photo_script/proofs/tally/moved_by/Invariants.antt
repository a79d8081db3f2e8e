use Rattle.std.proofs.Common.{◌≡◌, ◌+◌, drop, map}
use Rattle.std.specs.List.{sum_by}
use Rattle.photo_script.specs.Reports.{answer_of}
use Rattle.photo_script.specs.Tallies.{moved_by}
use Rattle.photo_script.proofs.tally.moved_by.Given as goal

abbrev pub invariant-loop-report : goal.invariant-loop-report
invariant-loop-report l = l.moved + sum_by moved_by (map answer_of (drop l.report-index l.reports)) ≡ sum_by moved_by (map answer_of l.reports)
