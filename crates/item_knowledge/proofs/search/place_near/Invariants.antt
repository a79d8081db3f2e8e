use Rattle.std.proofs.Common.{◌-◌, ◌≤◌, length}
use Rattle.item_knowledge.specs.Searching.{pairs_in, IsUpTo}
use Rattle.item_knowledge.proofs.search.place_near.Given as goal

abbrev pub invariant-loop-place : goal.invariant-loop-place
invariant-loop-place l = record { up_to : IsUpTo l.key (pairs_in l.list) l.place; end : l.end ≤ length (pairs_in l.list) }

abbrev pub decreases-loop-place : goal.decreases-loop-place
decreases-loop-place l = l.end - l.place
