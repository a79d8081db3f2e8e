use Rattle.std.proofs.Common.{◌≡◌, ◌≤◌, ◌+◌, ◌-◌}
use Rattle.fragment_arena.specs.Arena.{run, words_in}
use Rattle.fragment_arena.proofs.arena.FragmentArena.words_of_run.Given as goal

abbrev pub invariant-loop-place : goal.invariant-loop-place
invariant-loop-place l =
    (l.from ≤ l.place) × (l.place ≤ l.to) × (l.words + words_in (run l.self.rows l.place l.to) ≡ words_in (run l.self.rows l.from l.to))

abbrev pub decreases-loop-place : goal.decreases-loop-place
decreases-loop-place l = l.to - l.place
