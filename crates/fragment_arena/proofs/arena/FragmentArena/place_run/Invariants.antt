use Rattle.std.proofs.Common.{◌≤◌, ◌-◌}
use Rattle.fragment_arena.proofs.RunLemmas.{IsPlaced}
use Rattle.fragment_arena.proofs.arena.FragmentArena.place_run.Given as goal

abbrev pub invariant-loop-place : goal.invariant-loop-place
invariant-loop-place l =
    (l.from ≤ l.place) × (l.place ≤ l.to) × IsPlaced l.other.rows l.from l.to l.place l.initial.self.rows l.self.rows l.initial.self.reserved_words l.self.reserved_words l.initial.self.reserved_rows l.self.reserved_rows

abbrev pub decreases-loop-place : goal.decreases-loop-place
decreases-loop-place l = l.to - l.place
