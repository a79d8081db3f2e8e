use Rattle.std.proofs.Common.{refl, sym, subst, ap, ◌∙◌, arith}
use Rattle.std.proofs.lemmas.Grind.{common_steps}
use Rattle.item_knowledge.specs.Entries.{joined}
use Rattle.item_knowledge.specs.Excess.{exceeding}
use Rattle.item_knowledge.specs.PairCursor as spec
use Rattle.item_knowledge.specs.Rows.{pairs, IsRow}
use Rattle.item_knowledge.proofs.JoinLemmas.{exceeding_done, up_to_behind}
use Rattle.item_knowledge.proofs.RowLemmas.{flat_row, pairs_flat}
use Rattle.item_knowledge.proofs.join.join.Goals as goal

pub returns-clause-row : goal.returns-clause-row
returns-clause-row c =
    let is = exceeding_done (pairs c.args.star.now) (spec.entries_left c.loop-author.cursor c.args.xs.now c.args.ys.now) (exceeding (pairs c.args.star.now) (joined (pairs c.args.xs.now) (pairs c.args.ys.now))) c.loop-author.out.items (c.in_default.ensures.none refl) c.loop-author.invariant.done in
    subst IsRow (sym is) (flat_row (exceeding (pairs c.args.star.now) (joined (pairs c.args.xs.now) (pairs c.args.ys.now))))

pub returns-clause-entries : goal.returns-clause-entries
returns-clause-entries c =
    let is = exceeding_done (pairs c.args.star.now) (spec.entries_left c.loop-author.cursor c.args.xs.now c.args.ys.now) (exceeding (pairs c.args.star.now) (joined (pairs c.args.xs.now) (pairs c.args.ys.now))) c.loop-author.out.items (c.in_default.ensures.none refl) c.loop-author.invariant.done in
    ap pairs is ∙ pairs_flat (exceeding (pairs c.args.star.now) (joined (pairs c.args.xs.now) (pairs c.args.ys.now)))

pub loop-author-preserved-in-Continue-branch-3 : goal.loop-author-preserved-in-Continue-branch-3
loop-author-preserved-in-Continue-branch-3 c = record {
  done = grind (arith, common_steps);
  place = λ e es next. up_to_behind c.loop-author.cursor c.next_entry.new.self c.args.xs.now c.args.ys.now (pairs c.args.star.now) c.place_near-place.result (c.in-Some.author, c.in-Some.n) e es c.requires.right c.in-Some.ensures.next next c.place_near-place.ensures;
}

pub loop-author-preserved : goal.loop-author-preserved
loop-author-preserved c = record {
  done = grind (arith, common_steps);
  place = λ e es next. up_to_behind c.loop-author.cursor c.next_entry.new.self c.args.xs.now c.args.ys.now (pairs c.args.star.now) c.place_near-place.result (c.in-Some.author, c.in-Some.n) e es c.requires.right c.in-Some.ensures.next next c.place_near-place.ensures;
}
