use Rattle.std.proofs.Common.{ℕ, subst, arith}
use Rattle.std.proofs.lemmas.Grind.{common_steps}
use Rattle.item_knowledge.specs.Rows.{pairs}
use Rattle.item_knowledge.specs.Searching.{IsBetween}
use Rattle.item_knowledge.proofs.SearchLemmas.{up_to_next}
use Rattle.item_knowledge.proofs.distinct_union.exceeds.Goals as goal

pub loop-i-preserved : goal.loop-i-preserved
loop-i-preserved c =
    let star = pairs c.args.star.now in
    let place = c.place_near-place.result in
    record {
      rest = grind (arith, common_steps);
      place = λ l. up_to_next (pairs c.args.row.now) star c.loop-i.i place c.requires.order l (subst (λ (e : ℕ × ℕ). IsBetween e.0 star place place) c.entry_at-author.ensures c.place_near-place.ensures);
    }
