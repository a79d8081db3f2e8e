use Rattle.std.proofs.Common.{◌≡◌, ◌-◌, drop, length}
use Rattle.photo_pull.specs.OnHeld.{has_below}
use Rattle.photo_pull.proofs.superseding.any_below.Given as goal

abbrev pub invariant-loop-place : goal.invariant-loop-place
invariant-loop-place l = record { same : has_below (drop l.place l.list) l.newer ≡ has_below l.list l.newer }

abbrev pub decreases-loop-place : goal.decreases-loop-place
decreases-loop-place l = length l.list - l.place
