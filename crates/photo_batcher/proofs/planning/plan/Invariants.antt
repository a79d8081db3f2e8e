use Rattle.std.proofs.Common.{map}
use Rattle.photo_batcher.specs.Steps.{IsDraft}
use Rattle.photo_batcher.proofs.planning.plan.Given as goal

abbrev pub invariant-loop-place : goal.invariant-loop-place
invariant-loop-place l = IsDraft l.script l.place l.last.items l.batches.items l.afters.items (map (λ v. v.items) l.members.items)
