-- Machinery of the proofs: a Bloom filter over rows of words. A row without a mark was never marked.
use Rattle.std.specs.Prelude.{◌≡◌, ℕ, Bool, true, false, if◌then◌else◌, ◌+◌, ◌-◌, ◌*◌, ◌<◌, nat_lt, List, [], length, get_or}
use Rattle.item_knowledge.specs.VectorIndex.{mixed, share}

-- the place of a row's mark, among `count` places: any function of the row's words would do that stays below `count`
abbrev pub place_of : ℕ → List ℕ → ℕ
place_of count row = if nat_lt (length row) 2 then 0 else share count (mixed (get_or row (length row - 2) 0) (get_or row (length row - 1) 0))

abbrev pub is_marked : List Bool → List ℕ → Bool
is_marked marks row = get_or marks (place_of (length marks) row) false

-- each row that has a mark among the first has one among the second
abbrev pub HasMarks : List Bool → List Bool → Type 0
HasMarks one other = (row : List ℕ) → is_marked one row ≡ true → is_marked other row ≡ true

-- the vectors of the listed fragments have marks
abbrev pub AreMarked : List Bool → List (List ℕ) → List (ℕ × ℕ) → Type 0
AreMarked marks rows listed = (m : ℕ) → m < length listed → is_marked marks (get_or rows (2 * (get_or listed m (0, 0)).1 + 1) []) ≡ true
