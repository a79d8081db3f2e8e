-- Machinery of the proofs: rows of words. Each fragment has two rows: its pictures, and then its entries with two words each, the
-- author's word and the bound.
use Rattle.std.specs.Prelude.{◌≡◌, ℕ, ◌<◌, List, [], ◌∷◌, length, get_or}
use Rattle.std.specs.Simd.Lanes.{zip2}
use Rattle.item_knowledge.specs.Entries.{Entry}
use Rattle.item_knowledge.specs.Fragments.{Fragment}

abbrev pub pairs : List ℕ → List Entry
pairs [] = []
pairs (a ∷ []) = []
pairs (a ∷ n ∷ ws) = (a, n) ∷ pairs ws

abbrev pub flat : List Entry → List ℕ
flat [] = []
flat (e ∷ es) = e.0 ∷ e.1 ∷ flat es

-- the words are those of whole entries: their number is even
abbrev pub IsRow : List ℕ → Type 0
IsRow ws = flat (pairs ws) ≡ ws

-- a place is that of a key
pub record IsPlaceOf (es : List (ℕ × ℕ)) (place key : ℕ) : Type 0 where
  pub inside : place < length es
  pub key_is : (get_or es place (0, 0)).0 ≡ key

abbrev pub fragments_of : List (List ℕ) → List Fragment
fragments_of [] = []
fragments_of (ps ∷ []) = []
fragments_of (ps ∷ ws ∷ rows) = record { pictures = ps; entries = pairs ws } ∷ fragments_of rows

abbrev pub rows_of : List Fragment → List (List ℕ)
rows_of [] = []
rows_of (f ∷ fs) = f.pictures ∷ flat f.entries ∷ rows_of fs

-- fragments from the list of their pictures and the list of their rows
abbrev pub grouped : List (List ℕ) → List (List ℕ) → List Fragment
grouped pictures rows = zip2 (λ ps ws. record { pictures = ps; entries = pairs ws }) pictures rows

-- the rows are those of whole fragments: two for each, of whole entries
abbrev pub AreRows : List (List ℕ) → Type 0
AreRows rows = rows_of (fragments_of rows) ≡ rows
