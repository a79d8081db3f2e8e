use Rattle.item_knowledge.specs.DistinctUnion.{OthersTo}
use Rattle.item_knowledge.proofs.distinct_union.are_others.Given as goal

abbrev pub invariant-loop-i : goal.invariant-loop-i
invariant-loop-i l = record { others : OthersTo l.rows l.index l.joined l.i }
