-- Machinery of the proofs: a union in which each listed picture has a fragment of its own.
use Rattle.std.specs.Prelude.{◌≡◌, ℕ, suc, ◌+◌, ◌*◌, ◌<◌, ◌⊎◌, List, [], ◌∷◌, length, get_or, map}
use Rattle.item_knowledge.specs.Entries.{Entry}
use Rattle.item_knowledge.specs.Excess.{union_vector}
use Rattle.item_knowledge.specs.Fragments.{Fragment, first, nothing, entries_at}
use Rattle.item_knowledge.specs.Gathering.{paired, star_first, table_of}
use Rattle.item_knowledge.specs.Rows.{fragments_of, rows_of}

-- the pictures of a table, each in a fragment of its own; those with the star's vector are left out
abbrev pub singles : List Entry → (ℕ × ℕ → List Entry) → List (ℕ × (ℕ × ℕ)) → List Fragment
singles star vector rs = map (λ t. record { pictures = t.0 ∷ []; entries = t.1 }) (table_of star vector rs)

-- the first picture of each fragment, with the fragment's number
abbrev pub numbered : ℕ → List Fragment → List (ℕ × ℕ)
numbered n [] = []
numbered n (g ∷ gs) = (first g.pictures, n) ∷ numbered (suc n) gs

-- the union of two operands beyond its star, with a fragment for each picture
abbrev pub spread_of : List Entry → List Fragment → List Fragment → List (ℕ × ℕ) → List (ℕ × ℕ) → List Fragment
spread_of star fs gs xs ys = singles [] (union_vector star fs gs) (paired xs ys)

-- the left's fragment stays as it is: it lists this picture alone, and the union has just its entries there
pub record Stays (star : List Entry) (rows others : List (List ℕ)) (picture : ℕ) (numbers : ℕ × ℕ) : Type 0 where
  pub beside : 0 < numbers.0
  pub alone : get_or rows (2 * numbers.0) [] ≡ picture ∷ []
  pub joint : union_vector star (fragments_of rows) (fragments_of others) numbers ≡ entries_at (fragments_of rows) numbers.0

-- a fragment is one of the left's
pub record FromLeft (left : List (List ℕ)) (g : Fragment) : Type 0 where
  pub number : ℕ
  pub there : number < length (fragments_of left)
  pub alone : get_or left (2 * number) [] ≡ g.pictures
  pub is : entries_at (fragments_of left) number ≡ g.entries

-- a number is listed
pub record IsListed (listed : List (ℕ × ℕ)) (number : ℕ) : Type 0 where
  pub place : ℕ
  pub there : place < length listed
  pub is : (get_or listed place (0, 0)).1 ≡ number

-- each listed number is that of a fragment
abbrev pub AreThere : List (List ℕ) → List (ℕ × ℕ) → Type 0
AreThere rows listed = (m : ℕ) → m < length listed → (get_or listed m (0, 0)).1 < length (fragments_of rows)

-- the listed fragments have different vectors
abbrev pub AreDistinct : List (List ℕ) → List (ℕ × ℕ) → Type 0
AreDistinct rows listed = (j k : ℕ) → j < k → k < length listed
    → get_or rows (2 * (get_or listed j (0, 0)).1 + 1) [] ≡ get_or rows (2 * (get_or listed k (0, 0)).1 + 1) [] → ⊥

-- the fragment of a number has a vector that no listed fragment has
abbrev pub IsOther : List (List ℕ) → List (ℕ × ℕ) → ℕ → Type 0
IsOther rows listed number = (n : ℕ) → n < length listed → get_or rows (2 * number + 1) [] ≡ get_or rows (2 * (get_or listed n (0, 0)).1 + 1) [] → ⊥

-- each of the first fragments of an index was joined, or has a vector that no joined fragment has
abbrev pub OthersTo : List (List ℕ) → List (ℕ × ℕ) → List (ℕ × ℕ) → ℕ → Type 0
OthersTo rows index joined count = (m : ℕ) → m < count → IsListed joined (get_or index m (0, 0)).1 ⊎ IsOther rows joined (get_or index m (0, 0)).1

abbrev pub AreOthers : List (List ℕ) → List (ℕ × ℕ) → List (ℕ × ℕ) → Type 0
AreOthers rows index joined = OthersTo rows index joined (length index)

-- the joined fragments have different vectors, and no other fragment of the index has one of these
abbrev pub AreAllDistinct : List (List ℕ) → List (ℕ × ℕ) → List (ℕ × ℕ) → Type 0
AreAllDistinct rows index joined = AreDistinct rows joined × AreOthers rows index joined

-- rows of a star and of fragments, with their index; each fragment was joined or is one of the left's
pub record IsSpread (left : List (List ℕ)) (gs : List Fragment) (rows : List (List ℕ)) (index joined : List (ℕ × ℕ)) : Type 0 where
  pub rows_are : rows ≡ rows_of (star_first [] gs)
  pub index_is : index ≡ numbered 1 gs
  pub origins : (k : ℕ) → k < length gs → IsListed joined (suc k) ⊎ FromLeft left (get_or gs k nothing)
  pub there : (m : ℕ) → m < length joined → (get_or joined m (0, 0)).1 < suc (length gs)
