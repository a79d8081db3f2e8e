use Rattle.fragment_arena.proofs.EndLemmas.{AreMoved}
use Rattle.fragment_arena.proofs.ends.move_all.Given as goal

abbrev pub invariant-loop-i : goal.invariant-loop-i
invariant-loop-i l = AreMoved l.first l.at l.initial.ends l.ends l.i
