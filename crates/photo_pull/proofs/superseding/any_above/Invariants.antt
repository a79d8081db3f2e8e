use Rattle.std.proofs.Common.{◌≡◌, ◌-◌, drop, length}
use Rattle.photo_pull.specs.OnHeld.{has_above}
use Rattle.photo_pull.proofs.superseding.any_above.Given as goal

abbrev pub invariant-loop-place : goal.invariant-loop-place
invariant-loop-place l = record { same : has_above (drop l.place l.list) l.held ≡ has_above (drop l.from l.list) l.held }

abbrev pub decreases-loop-place : goal.decreases-loop-place
decreases-loop-place l = length l.list - l.place
