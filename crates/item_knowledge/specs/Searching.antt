-- Machinery of the proofs: a lent list of sorted pairs, and a place between smaller keys and the others.
use Rattle.std.specs.Prelude.{ℕ, ◌<◌, ◌≤◌, List, length, get_or}
use Rattle.item_knowledge.specs.declared.search.SortedPairs.{SortedPairs}
use Rattle.item_knowledge.specs.declared.search.SortedPairs.TheVariants.{Index, Row}
use Rattle.item_knowledge.specs.Rows.{pairs, IsRow}

abbrev pub pairs_in : SortedPairs → List (ℕ × ℕ)
pairs_in (Index index) = index.now
pairs_in (Row row) = pairs row.now

-- the words of a row are those of whole entries
abbrev pub IsWhole : SortedPairs → Type 0
IsWhole (Index index) = Unit {0}
IsWhole (Row row) = IsRow row.now

-- the type of a list has no key from this one on
abbrev pub key_limit : SortedPairs → ℕ
key_limit (Index index) = 4294967296
key_limit (Row row) = 18446744073709551616

-- all keys before a place are smaller
abbrev pub AreBelow : ℕ → List (ℕ × ℕ) → ℕ → Type 0
AreBelow key xs place = (k : ℕ) → k < place → (get_or xs k (0, 0)).0 < key

-- a place up to which all keys are smaller
pub record IsUpTo (key : ℕ) (xs : List (ℕ × ℕ)) (place : ℕ) : Type 0 where
  pub inside : place ≤ length xs
  pub below : AreBelow key xs place

-- all keys before the first place are smaller, and none from the second place on is
pub record IsBetween (key : ℕ) (xs : List (ℕ × ℕ)) (low high : ℕ) : Type 0 where
  pub inside : high ≤ length xs
  pub below : AreBelow key xs low
  pub from : (k : ℕ) → high ≤ k → k < length xs → key ≤ (get_or xs k (0, 0)).0
