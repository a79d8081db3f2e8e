use Rattle.std.specs.Prelude.{ℕ, List, take}
use Rattle.std.specs.Arc.{arc_value}
use Rattle.photo_batcher.specs.Batches.{InTurn}
use Rattle.fleet_workers.specs.Progress.{HasRun}
use Rattle.fleet_workers.proofs.fleet.run_batches.Given as goal

-- some batches have run
abbrev pub invariant-loop-batch : goal.invariant-loop-batch
invariant-loop-batch g l = (front : List ℕ) × InTurn (take l.batch l.plan.members) front × HasRun (arc_value l.shared.script) front l.slots l.share
