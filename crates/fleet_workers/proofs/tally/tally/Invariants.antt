use Rattle.std.specs.Prelude.{◌≡◌, ◌≤◌, take}
use Rattle.fleet_workers.specs.Counting.{tally_at}
use Rattle.fleet_workers.specs.Jobs.{numbers_of}
use Rattle.fleet_workers.proofs.tally.tally.Given as goal

abbrev pub invariant-loop-job : goal.invariant-loop-job
invariant-loop-job l = record {
  sum : l.sum ≡ tally_at l.script (numbers_of (take l.job-index l.jobs.items));
  changes : l.sum.changes ≤ l.job-index;
  pulls : l.sum.pulls ≤ l.job-index;
  reports : l.sum.reports ≤ l.job-index;
}
