-- Machinery of the proofs: the union of two lists of fragments, gathered picture by picture as the code does it.
use Rattle.std.specs.Prelude.{◌≡◌, ℕ, Bool, suc, ◌<◌, ◌≤◌, true, false, not, ◌&&◌, ◌||◌, ◌==◌, max, nat_lt, List, [], ◌∷◌, ◌++◌, length, get_or, map}
use Rattle.std.specs.List.{list_all, filter}
use Rattle.photo_version.specs.Version.{Version}
use Rattle.item_knowledge.specs.Tables.{merge, each, at, in_order, keys_pass}
use Rattle.item_knowledge.specs.Entries.{Entry, denotes, is_vector, bound, leq, same_entries, joined}
use Rattle.item_knowledge.specs.Fragments.{Fragment, is_empty, first, knows, is_normal, known, nothing, entries_at}

-- the vector to which an index leads from a picture, the star's where it leads nowhere
abbrev pub vector_of : List Fragment → List (ℕ × ℕ) → ℕ → List Entry
vector_of fs index p = entries_at fs (at 0 index p)

abbrev pub is_above : List Entry → Fragment → Bool
is_above star f = is_vector f.entries && leq star f.entries

-- one operand of a union: a star, vectors above it, and pictures in order with the numbers of their vectors
pub record IsOperand (fs : List Fragment) (index : List (ℕ × ℕ)) : Type 0 where
  pub star : 0 < length fs
  pub above : list_all (λ f. is_above (entries_at fs 0) f) fs ≡ true
  pub order : in_order index ≡ true
  pub positive : keys_pass (λ p. nat_lt 0 p) index ≡ true
  pub range : list_all (λ r. nat_lt r.1 (length fs)) index ≡ true

-- the index of a normal form: each listed picture with the number of its fragment
pub record IsIndex (index : List (ℕ × ℕ)) (fs : List Fragment) : Type 0 where
  pub order : in_order index ≡ true
  pub positive : keys_pass (λ p. nat_lt 0 p) index ≡ true
  pub range : list_all (λ r. nat_lt r.1 (length fs)) index ≡ true
  pub vectors : (p : ℕ) → vector_of fs index p ≡ known fs p

-- each picture with the numbers of its fragments in both operands, 0 for the star
abbrev pub paired : List (ℕ × ℕ) → List (ℕ × ℕ) → List (ℕ × (ℕ × ℕ))
paired xs ys = merge (λ a. (a, 0)) (λ a b. (a, b.1)) (λ b. (0, b)) xs ys

-- the join of two fragments, one of each operand
abbrev pub pair_vector : List Fragment → List Fragment → ℕ × ℕ → List Entry
pair_vector fs gs k = joined (entries_at fs k.0) (entries_at gs k.1)

-- the pictures of a table with their vectors; those with the star's vector are left out
abbrev pub table_of : List Entry → (ℕ × ℕ → List Entry) → List (ℕ × (ℕ × ℕ)) → List (ℕ × List Entry)
table_of star f rs = filter (λ t. not (same_entries star t.1)) (each f rs)

-- the pictures to which an index gives this number
abbrev pub pictures_of : ℕ → List (ℕ × ℕ) → List ℕ
pictures_of n index = map (λ z. z.0) (filter (λ z. z.1 == n) index)

-- the pictures of the fragment at a place
abbrev pub pictures_at : List Fragment → ℕ → List ℕ
pictures_at gs k = (get_or gs k nothing).pictures

abbrev pub star_first : List Entry → List Fragment → List Fragment
star_first star gs = record { pictures = []; entries = star } ∷ gs

-- pictures of a table in the groups of their vectors, in order and with their index; `left` is the rest of the table
pub record IsGathered (table left : List (ℕ × List Entry)) (gs : List Fragment) (index : List (ℕ × ℕ)) : Type 0 where
  pub vectors : each (entries_at (star_first [] gs)) index ++ left ≡ table
  pub range : list_all (λ z. nat_lt z.1 (suc (length gs))) index ≡ true
  pub pictures : (k : ℕ) → pictures_at gs k ≡ pictures_of (suc k) index
  pub some : (k : ℕ) → k < length gs → (is_empty (pictures_at gs k) ≡ false) × (same_entries [] (entries_at gs k) ≡ false)
  pub order : (j k : ℕ) → j < k → k < length gs → first (pictures_at gs j) < first (pictures_at gs k)

-- a picture is put into the group at a place; this group has the picture's vector, and is the last one where it is new
pub record IsAdded (p : ℕ) (v : List Entry) (gs more : List Fragment) (place : ℕ) : Type 0 where
  pub inside : place < length more
  pub vector : entries_at more place ≡ v
  pub kept : (k : ℕ) → k < length gs → entries_at more k ≡ entries_at gs k
  pub longer : length gs ≤ length more
  pub pictures : (k : ℕ) → pictures_at more k ≡ pictures_at gs k ++ pictures_of (suc k) ((p, suc place) ∷ [])
  pub new : (k : ℕ) → length gs ≤ k → k < length more → (k ≡ place) × (pictures_at gs k ≡ [])

-- what holds of the union of two operands
pub record IsUnion (fs : List Fragment) (xs : List (ℕ × ℕ)) (gs : List Fragment) (ys : List (ℕ × ℕ)) (us : List Fragment) (zs : List (ℕ × ℕ)) : Type 0 where
  pub normal : is_normal us ≡ true
  pub index : IsIndex zs us
  pub star : (a : ℕ) → bound (entries_at us 0) a ≡ max (bound (entries_at fs 0) a) (bound (entries_at gs 0) a)
  pub pairs : (p : ℕ) (v : Version) → 0 < p → knows us p v ≡ (denotes (vector_of fs xs p) v || denotes (vector_of gs ys p) v)
