use Rattle.std.proofs.Common.{◌≡◌, [], ◌++◌, drop}
use Rattle.item_knowledge.specs.Gathering.{star_first}
use Rattle.item_knowledge.specs.Rows.{rows_of, grouped}
use Rattle.item_knowledge.specs.VectorIndex.{vectors_at}
use Rattle.item_knowledge.proofs.union.write.Given as goal

abbrev pub invariant-loop-k : goal.invariant-loop-k
invariant-loop-k l = record { rest : l.out ++ rows_of (grouped (drop l.k l.groups) (drop l.k (vectors_at l.vectors l.by_vector.numbers.items))) ≡ rows_of (star_first [] (grouped l.groups (vectors_at l.vectors l.by_vector.numbers.items))) }
