use Rattle.std.proofs.Common.{◌<◌, length, get_or, sym, subst, ap, ◌∙◌, arith}
use Rattle.std.proofs.lemmas.Grind.{common_steps}
use Rattle.item_knowledge.specs.Fragments.{entries_at}
use Rattle.item_knowledge.specs.Rows.{fragments_of}
use Rattle.item_knowledge.specs.Searching.{IsBetween}
use Rattle.item_knowledge.specs.Tables.{at}
use Rattle.item_knowledge.proofs.KeptLemmas.{leq_trans}
use Rattle.item_knowledge.proofs.SearchLemmas.{up_to_next}
use Rattle.item_knowledge.proofs.UnionLemmas.{above, number_below}
use Rattle.item_knowledge.proofs.knowledge_rows.is_within.Goals as goal

pub is_leq-requires-clause-star : goal.is_leq-requires-clause-star
is_leq-requires-clause-star c =
    let number = c.value_at-other.ensures ∙ ap (at 0 c.args.others_index.now) c.from-key.ensures in
    let below = subst (λ n. n < length (fragments_of c.args.others.now)) (sym number) (number_below (fragments_of c.args.others.now) c.args.others_index.now (get_or c.args.index.now c.loop-i.i (0, 0)).0 c.requires.right) in
    let star = above (fragments_of c.args.rows.now) c.args.index.now 0 c.requires.left c.requires.left.star in
    let over = above (fragments_of c.args.others.now) c.args.others_index.now c.value_at-other.result c.requires.right below in
    leq_trans (entries_at (fragments_of c.args.rows.now) 0) (entries_at (fragments_of c.args.others.now) 0) (entries_at (fragments_of c.args.others.now) c.value_at-other.result) star.vector (sym c.if-not-is_star_leq.ensures) over.above

pub loop-i-preserved : goal.loop-i-preserved
loop-i-preserved c =
    let place = c.place_near-place.result in
    record {
      rest = grind (arith, common_steps);
      place = λ l. up_to_next c.args.index.now c.args.others_index.now c.loop-i.i place c.requires.left.order l (subst (λ k. IsBetween k c.args.others_index.now place place) c.from-key.ensures c.place_near-place.ensures);
    }
