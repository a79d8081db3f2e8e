use Rattle.std.proofs.Common.{◌≡◌, ◌<◌, drop, length, get_or}
use Rattle.item_knowledge.specs.Excess.{is_covered}
use Rattle.item_knowledge.specs.Rows.{pairs}
use Rattle.item_knowledge.specs.Searching.{IsUpTo}
use Rattle.item_knowledge.proofs.distinct_union.adds_nothing.Given as goal

abbrev pub invariant-loop-i : goal.invariant-loop-i
invariant-loop-i l = record {
  rest : is_covered (pairs l.star) (pairs l.other) (drop l.i (pairs l.row)) ≡ is_covered (pairs l.star) (pairs l.other) (pairs l.row);
  place : l.i < length (pairs l.row) → IsUpTo (get_or (pairs l.row) l.i (0, 0)).0 (pairs l.other) l.place;
}
