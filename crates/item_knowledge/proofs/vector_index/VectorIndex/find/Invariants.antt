use Rattle.std.proofs.Common.{length}
use Rattle.item_knowledge.specs.VectorIndex.{bucket, vectors_at}
use Rattle.item_knowledge.proofs.ChainLemmas.{Along}
use Rattle.item_knowledge.proofs.vector_index.VectorIndex.find.Given as goal

abbrev pub invariant-loop-place : goal.invariant-loop-place
invariant-loop-place l = record { along : Along (bucket l.self.seed (length l.self.heads.items)) (vectors_at l.rows l.self.numbers.items) l.row l.place }

abbrev pub decreases-loop-place : goal.decreases-loop-place
decreases-loop-place l = l.place
