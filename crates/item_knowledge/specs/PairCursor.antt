-- Machinery of the proofs: a cursor along two sorted lists of pairs at once.
use Rattle.std.specs.Prelude.{ℕ, ◌+◌, ◌-◌, List, length, drop}
use Rattle.item_knowledge.specs.declared.pair_cursor.PairCursor.{PairCursor}
use Rattle.item_knowledge.specs.Entries.{Entry, joined}
use Rattle.item_knowledge.specs.Gathering.{paired}
use Rattle.item_knowledge.specs.Rows.{pairs}

-- the keys of both that are still to come, with the values beside them
abbrev pub left_of : PairCursor → List (ℕ × ℕ) → List (ℕ × ℕ) → List (ℕ × (ℕ × ℕ))
left_of at xs ys = paired (drop at.left xs) (drop at.right ys)

-- the entries of the join of two rows that are still to come
abbrev pub entries_left : PairCursor → List ℕ → List ℕ → List Entry
entries_left at xs ys = joined (drop at.left (pairs xs)) (drop at.right (pairs ys))

-- the number of pairs that are still to come in both
abbrev pub to_come : PairCursor → List (ℕ × ℕ) → List (ℕ × ℕ) → ℕ
to_come at xs ys = (length xs - at.left) + (length ys - at.right)
