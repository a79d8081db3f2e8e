use Rattle.std.specs.Prelude.{◌≡◌, ◌++◌, List}
use Rattle.std.specs.Arc.{arc_value}
use Rattle.std.specs.Vec.Iter.{into_iter_items}
use Rattle.fleet_workers.specs.declared.work.Job.{Job}
use Rattle.fleet_workers.specs.Jobs.{HasWorked}
use Rattle.fleet_workers.proofs.worker.run_jobs.Given as goal

-- the first jobs have run
abbrev pub invariant-loop-job : goal.invariant-loop-job
invariant-loop-job g l = record {
  front : List Job;
  all : front ++ into_iter_items l.job-iterator ≡ l.fn.jobs.items;
  worked : HasWorked (arc_value l.shared.script) front l.done.items l.fn.share l.share;
}
