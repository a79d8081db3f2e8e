use Rattle.std.proofs.Common.{[]}
use Rattle.item_knowledge.specs.Excess.{union_vector}
use Rattle.item_knowledge.specs.Gathering.{table_of, IsGathered}
use Rattle.item_knowledge.specs.PairCursor.{left_of, to_come}
use Rattle.item_knowledge.specs.VectorIndex.{AreGrouped, vectors_at}
use Rattle.item_knowledge.specs.Rows.{pairs, grouped}
use Rattle.item_knowledge.specs.Operand.{fragments}
use Rattle.item_knowledge.specs.Written.{union_table}
use Rattle.item_knowledge.proofs.union.groups.Given as goal

abbrev pub invariant-loop-picture : goal.invariant-loop-picture
invariant-loop-picture l = record {
  gathered : IsGathered (union_table (pairs l.star) (fragments l.left) (fragments l.right) l.left.index.now l.right.index.now)
      (table_of [] (union_vector (pairs l.star) (fragments l.left) (fragments l.right)) (left_of l.cursor l.left.index.now l.right.index.now)) (grouped l.groups.items (vectors_at l.vectors l.by_vector.numbers.items)) l.index.items;
  placed : AreGrouped l.by_vector l.vectors l.groups.items;
}

abbrev pub decreases-loop-picture : goal.decreases-loop-picture
decreases-loop-picture l = to_come l.cursor l.left.index.now l.right.index.now
