use Rattle.std.proofs.Common.{sym, subst, arith}
use Rattle.std.specs.Arc.{arc_value}
use Rattle.work_ledger.specs.Stakes.{Stake, Within}
use Rattle.fleet_workers.specs.Counting.{tally_at}
use Rattle.fleet_workers.specs.Jobs.{HasWorked, numbers_of}
use Rattle.fleet_workers.proofs.crew.run_alone.Goals as goal

pub run_jobs-requires-after_bounds : goal.run_jobs-requires-after_bounds
run_jobs-requires-after_bounds g c κs within =
    let all = tally_at (arc_value c.args.shared.now.script) (numbers_of c.args.jobs.items) in
    (c.requires.ready, subst (λ (s : Stake). Within all s.left) (sym c.requires.share) (omega arith, omega arith, omega arith))

pub returns : goal.returns
returns g c =
    subst (λ (s : Stake). HasWorked (arc_value c.args.shared.now.script) c.args.jobs.items c.in_ok-done.done.items s c.run_jobs.new.share) c.requires.share c.in_ok-done.ensures
