use Rattle.std.proofs.Common.{ℕ, ◌+◌, ◌<◌, ◌-◌, ◌/◌, length, ap, arith}
use Rattle.item_knowledge.specs.Searching.{pairs_in}
use Rattle.item_knowledge.proofs.SearchLemmas.{below_to, from_on}
use Rattle.item_knowledge.proofs.search.place_from.Goals as goal

pub loop-low-preserved-then-found-key : goal.loop-low-preserved-then-found-key
loop-low-preserved-then-found-key c =
    let xs = pairs_in c.args.list in
    let middle = c.loop-low.low + (c.loop-low.high - c.loop-low.low) / 2 in
    let key = ap (λ (e : ℕ × ℕ). e.0) c.pair_at-found.ensures.pair in
    let inside : middle < length xs = omega (arith, c.loop-low.invariant.between.inside) in
    record {
      ends = omega arith;
      between = record { inside = c.loop-low.invariant.between.inside; below = below_to xs c.args.key middle c.requires.order inside (omega arith); from = c.loop-low.invariant.between.from };
    }

pub loop-low-preserved : goal.loop-low-preserved
loop-low-preserved c =
    let xs = pairs_in c.args.list in
    let middle = c.loop-low.low + (c.loop-low.high - c.loop-low.low) / 2 in
    let key = ap (λ (e : ℕ × ℕ). e.0) c.pair_at-found.ensures.pair in
    record {
      ends = omega arith;
      between = record { inside = omega (arith, c.loop-low.invariant.between.inside); below = c.loop-low.invariant.between.below; from = λ k l m. from_on xs c.args.key middle k c.requires.order (omega arith) l m };
    }
