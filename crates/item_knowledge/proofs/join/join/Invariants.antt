use Rattle.std.proofs.Common.{◌≡◌, ◌++◌, List, ◌∷◌}
use Rattle.item_knowledge.specs.Entries.{Entry, joined}
use Rattle.item_knowledge.specs.Excess.{exceeding}
use Rattle.item_knowledge.specs.PairCursor as spec
use Rattle.item_knowledge.specs.Rows.{pairs, flat}
use Rattle.item_knowledge.specs.Searching.{IsUpTo}
use Rattle.item_knowledge.proofs.join.join.Given as goal

abbrev pub invariant-loop-author : goal.invariant-loop-author
invariant-loop-author l = record {
  done : l.out.items ++ flat (exceeding (pairs l.star) (spec.entries_left l.cursor l.xs l.ys)) ≡ flat (exceeding (pairs l.star) (joined (pairs l.xs) (pairs l.ys)));
  place : (e : Entry) (es : List Entry) → spec.entries_left l.cursor l.xs l.ys ≡ e ∷ es → IsUpTo e.0 (pairs l.star) l.place;
}

abbrev pub decreases-loop-author : goal.decreases-loop-author
decreases-loop-author l = spec.to_come l.cursor (pairs l.xs) (pairs l.ys)
