use Rattle.std.proofs.Common.{◌≡◌, drop}
use Rattle.item_knowledge.specs.VectorIndex.{mixed, hashed}
use Rattle.item_knowledge.proofs.vector_index.hash_of.Given as goal

abbrev pub invariant-loop-word : goal.invariant-loop-word
invariant-loop-word l = record { rest : hashed l.hash (drop l.word-index l.row) ≡ hashed (mixed l.seed 0) l.row }
