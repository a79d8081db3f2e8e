-- Machinery of the proofs: a star that stands once, and rows of what exceeds it.
use Rattle.std.specs.Prelude.{◌≡◌, ℕ, ◌<◌, Bool, true, nat_lt, nat_le, ◌||◌, if◌then◌else◌, List, [], ◌∷◌, length, map}
use Rattle.std.specs.List.{list_all}
use Rattle.item_knowledge.specs.Entries.{Entry, is_vector, bound, joined}
use Rattle.item_knowledge.specs.Fragments.{Fragment, entries_at}
use Rattle.item_knowledge.specs.Gathering.{pair_vector}
use Rattle.item_knowledge.specs.Rows.{pairs, IsRow, AreRows, fragments_of, rows_of}

-- the entries whose bounds are above the star's
abbrev pub exceeding : List Entry → List Entry → List Entry
exceeding star [] = []
exceeding star (e ∷ es) = if nat_lt (bound star e.0) e.1 then e ∷ exceeding star es else exceeding star es

-- each bound is above the star's
abbrev pub exceeds_all : List Entry → List Entry → Bool
exceeds_all star es = list_all (λ e. nat_lt (bound star e.0) e.1) es

-- each bound is at most the bound of the same author in other entries or in the star
abbrev pub is_covered : List Entry → List Entry → List Entry → Bool
is_covered star others es = list_all (λ e. nat_le e.1 (bound others e.0) || nat_le e.1 (bound star e.0)) es

-- the join of two fragments, one of each operand, beyond the star of the union
abbrev pub union_vector : List Entry → List Fragment → List Fragment → ℕ × ℕ → List Entry
union_vector star fs gs k = exceeding star (pair_vector fs gs k)

-- a fragment with its whole vector
abbrev pub whole : List Entry → Fragment → Fragment
whole star f = record { pictures = f.pictures; entries = joined f.entries star }

abbrev pub wholes : List Entry → List Fragment → List Fragment
wholes star fs = map (λ f. whole star f) fs

-- the rows of fragments with their whole vectors
abbrev pub shown : List ℕ → List (List ℕ) → List (List ℕ)
shown star rows = rows_of (wholes (pairs star) (fragments_of rows))

-- the first fragment has no entries, and the bounds of the others are above the star's
pub record IsExcess (star : List ℕ) (rows : List (List ℕ)) : Type 0 where
  pub row : IsRow star
  pub vector : is_vector (pairs star) ≡ true
  pub are_rows : AreRows rows
  pub first : entries_at (fragments_of rows) 0 ≡ []
  pub vectors : (k : ℕ) → is_vector (entries_at (fragments_of rows) k) ≡ true
  pub exceeds : (k a : ℕ) → 0 < bound (entries_at (fragments_of rows) k) a → bound (pairs star) a < bound (entries_at (fragments_of rows) k) a

-- a row and a star, as a fragment lends them
pub record IsLent (words star_words : List ℕ) : Type 0 where
  pub row : IsRow words
  pub vector : is_vector (pairs words) ≡ true
  pub star_row : IsRow star_words
  pub star : is_vector (pairs star_words) ≡ true

-- no two fragments have the same vector
abbrev pub AllDiffer : List Fragment → Type 0
AllDiffer fs = (a b : ℕ) → a < b → b < length fs → entries_at fs a ≡ entries_at fs b → ⊥
