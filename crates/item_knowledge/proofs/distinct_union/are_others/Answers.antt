use Rattle.std.proofs.Common.{rules, get_or, sym, subst, ap, ◌∙◌, inr, below_more}
use Rattle.item_knowledge.specs.BoundFilter.{is_marked}
use Rattle.item_knowledge.specs.VectorIndex.{is_new, vectors_at}
use Rattle.item_knowledge.proofs.DistinctUnionLemmas.{new_other, unmarked_other}
use Rattle.item_knowledge.proofs.distinct_union.are_others.Goals as goal

pub loop-i-preserved-then-not-has : goal.loop-i-preserved-then-not-has
loop-i-preserved-then-not-has c =
    record {
      others = below_more _ _ c.loop-i.invariant.others
          (inr (unmarked_other c.args.marks.now.marks.items c.args.rows.now c.args.joined.now (get_or c.args.index.now c.loop-i.i (0, 0)).1 c.requires.marked (ap (is_marked c.args.marks.now.marks.items) (sym c.entries-row.ensures.words) ∙ sym c.has.ensures ∙ search rules)));
    }

pub loop-i-preserved : goal.loop-i-preserved
loop-i-preserved c =
    record {
      others = below_more _ _ c.loop-i.invariant.others
          (inr (new_other c.args.by_vector.now c.args.rows.now c.args.joined.now c.requires.numbers (get_or c.args.index.now c.loop-i.i (0, 0)).1 (subst (λ ws. is_new (vectors_at c.args.rows.now c.args.by_vector.now.numbers.items) ws) c.entries-row.ensures.words (c.find.ensures.absent (search rules)))));
    }
