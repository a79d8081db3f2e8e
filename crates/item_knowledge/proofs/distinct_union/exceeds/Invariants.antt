use Rattle.std.proofs.Common.{◌≡◌, ◌<◌, drop, length, get_or}
use Rattle.item_knowledge.specs.Excess.{exceeds_all}
use Rattle.item_knowledge.specs.Rows.{pairs}
use Rattle.item_knowledge.specs.Searching.{IsUpTo}
use Rattle.item_knowledge.proofs.distinct_union.exceeds.Given as goal

abbrev pub invariant-loop-i : goal.invariant-loop-i
invariant-loop-i l = record {
  rest : exceeds_all (pairs l.star) (drop l.i (pairs l.row)) ≡ exceeds_all (pairs l.star) (pairs l.row);
  place : l.i < length (pairs l.row) → IsUpTo (get_or (pairs l.row) l.i (0, 0)).0 (pairs l.star) l.place;
}
