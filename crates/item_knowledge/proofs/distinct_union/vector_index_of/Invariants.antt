use Rattle.std.proofs.Common.{◌≡◌, ℕ, map, take}
use Rattle.item_knowledge.specs.VectorIndex.{IsIndexed}
use Rattle.item_knowledge.proofs.distinct_union.vector_index_of.Given as goal

abbrev pub invariant-loop-i : goal.invariant-loop-i
invariant-loop-i l = record { found : IsIndexed l.by_vector l.rows; noted : l.by_vector.numbers.items ≡ map (λ (x : ℕ × ℕ). x.1) (take l.i l.listed) }
