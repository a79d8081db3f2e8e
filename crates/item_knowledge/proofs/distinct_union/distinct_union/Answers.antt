use Rattle.std.proofs.Common.{sym, subst}
use Rattle.item_knowledge.specs.DistinctUnion.{AreThere, AreAllDistinct}
use Rattle.item_knowledge.specs.Rows.{pairs}
use Rattle.item_knowledge.proofs.DistinctUnionLemmas.{spread_rows, there_index, there_joined, distinct_written}
use Rattle.item_knowledge.proofs.distinct_union.distinct_union.Goals as goal

pub are_all_distinct-requires-clause-rows : goal.are_all_distinct-requires-clause-rows
are_all_distinct-requires-clause-rows c = spread_rows c.in_ok-spread.ensures

pub are_all_distinct-requires-clause-index : goal.are_all_distinct-requires-clause-index
are_all_distinct-requires-clause-index c = subst (λ ns. AreThere c.spread.new.out ns) (sym c.deref.ensures.value) (there_index c.in_ok-spread.ensures)

pub are_all_distinct-requires-clause-joined : goal.are_all_distinct-requires-clause-joined
are_all_distinct-requires-clause-joined c = subst (λ ns. AreThere c.spread.new.out ns) (sym c.deref-2.ensures.value) (there_joined c.in_ok-spread.ensures)

pub returns-then-branch : goal.returns-then-branch
returns-then-branch c =
    let told : AreAllDistinct c.spread.new.out c.deref.result.now c.deref-2.result.now = c.in_ok-are_all_distinct.ensures c.if-branch.true in
    let told_of : AreAllDistinct c.spread.new.out c.spread.new.lists.index.items c.spread.new.lists.joined.items =
    subst (λ ns. AreAllDistinct c.spread.new.out ns c.spread.new.lists.joined.items) c.deref.ensures.value (subst (λ ms. AreAllDistinct c.spread.new.out c.deref.result.now ms) c.deref-2.ensures.value told) in
    distinct_written c.args.left.rows.now c.args.right.rows.now c.args.left.index.now c.args.right.index.now (pairs c.args.star.now) c.spread.new.out c.spread.new.lists.index.items c.spread.new.lists.joined.items c.requires.differ c.args.left.operand c.args.right.operand c.in_ok-spread.ensures c.args.left.excess.first c.args.right.excess.first told_of
