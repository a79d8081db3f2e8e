use Rattle.std.proofs.Common.{◌≡◌, ℕ, ◌+◌, ◌*◌, ◌<◌, true, [], length, get_or}
use Rattle.item_knowledge.specs.BoundFilter.{is_marked}
use Rattle.item_knowledge.proofs.distinct_union.marks_of.Given as goal

abbrev pub invariant-loop-i : goal.invariant-loop-i
invariant-loop-i l = record {
  some : 0 < length l.marks.marks.items;
  marked : (m : ℕ) → m < l.i → is_marked l.marks.marks.items (get_or l.rows (2 * (get_or l.listed m (0, 0)).1 + 1) []) ≡ true;
}
