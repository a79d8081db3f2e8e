use Rattle.item_knowledge.specs.PairCursor.{to_come}
use Rattle.item_knowledge.specs.Rows.{pairs}
use Rattle.item_knowledge.specs.UnionProgress.{IsWrittenUpTo}
use Rattle.item_knowledge.proofs.distinct_union.spread.Given as goal

abbrev pub invariant-loop-picture : goal.invariant-loop-picture
invariant-loop-picture l = IsWrittenUpTo l.left.rows.now l.right.rows.now l.left.index.now l.right.index.now (pairs l.star) l.out l.lists.index.items l.lists.joined.items l.cursor l.from l.to

abbrev pub decreases-loop-picture : goal.decreases-loop-picture
decreases-loop-picture l = to_come l.cursor l.left.index.now l.right.index.now
