use Rattle.std.proofs.Common.{ℕ, ap, arith}
use Rattle.item_knowledge.specs.Searching.{pairs_in}
use Rattle.item_knowledge.proofs.SearchLemmas.{from_on}
use Rattle.item_knowledge.proofs.search.place_near.Goals as goal

pub returns-then-found-key : goal.returns-then-found-key
returns-then-found-key c =
    let key = ap (λ (e : ℕ × ℕ). e.0) c.pair_at-found.ensures.pair in
    record {
      inside = omega (arith, c.loop-place.invariant.end);
      below = c.loop-place.invariant.up_to.below;
      from = λ k l m. from_on (pairs_in c.args.list) c.args.key c.loop-place.place k c.requires.order (omega arith) l m;
    }
