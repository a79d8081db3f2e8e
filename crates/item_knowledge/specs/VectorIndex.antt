-- Machinery of the proofs: a hash index of rows of words.
use Rattle.std.specs.Prelude.{◌≡◌, ℕ, ◌<◌, ◌≤◌, ◌+◌, ◌-◌, ◌*◌, ◌/◌, ◌%◌, ◌^◌, List, [], ◌∷◌, length, get_or, map, bit_xor}
use Rattle.std.specs.Int.{rotate_left, w64}
use Rattle.item_knowledge.specs.declared.vector_index.VectorIndex.{VectorIndex}
use Rattle.item_knowledge.specs.Rows.{IsRow}

-- the hash after one more word
unfoldable pub mixed : ℕ → ℕ → ℕ
mixed hash word = bit_xor (rotate_left w64 hash 23) word * 11400714819323198485 % 2 ^ 64

abbrev pub hashed : ℕ → List ℕ → ℕ
hashed hash [] = hash
hashed hash (w ∷ ws) = hashed (mixed hash w) ws

-- the bucket of a hash, among `count`: hashes, in rising order, are divided evenly among the buckets
unfoldable pub share : ℕ → ℕ → ℕ
share count hash = hash * count / 2 ^ 64

-- the bucket of a row, among `count`: any function of the row's words would do that stays below `count`
abbrev pub bucket : ℕ → ℕ → List ℕ → ℕ
bucket seed count row = share count (hashed (mixed seed 0) row)

-- the last of the first rows in bucket `b` stands right before this place; at place 0 there is none
pub record IsLast (bucket_of : List ℕ → ℕ) (b : ℕ) (rows : List (List ℕ)) (first place : ℕ) : Type 0 where
  pub within : place ≤ first
  pub there : 0 < place → bucket_of (get_or rows (place - 1) []) ≡ b
  pub none_later : (k : ℕ) → place ≤ k → k < first → bucket_of (get_or rows k []) ≡ b → ⊥

abbrev pub is_new : List (List ℕ) → List ℕ → Type 0
is_new rows row = (k : ℕ) → k < length rows → get_or rows k [] ≡ row → ⊥

-- each bucket leads to its last row, and each row to the one before it in its bucket; no row stands there twice
pub record IsChained (bucket_of : List ℕ → ℕ) (heads before : List ℕ) (rows : List (List ℕ)) : Type 0 where
  pub below : (row : List ℕ) → bucket_of row < length heads
  pub counted : length before ≡ length rows
  pub latest : (b : ℕ) → b < length heads → IsLast bucket_of b rows (length rows) (get_or heads b 0)
  pub earlier : (k : ℕ) → k < length rows → IsLast bucket_of (bucket_of (get_or rows k [])) rows k (get_or before k 0)
  pub once : (j k : ℕ) → j < k → k < length rows → get_or rows j [] ≡ get_or rows k [] → ⊥

-- the vectors of the fragments of these numbers
abbrev pub vectors_at : List (List ℕ) → List ℕ → List (List ℕ)
vectors_at rows numbers = map (λ n. get_or rows (2 * n + 1) []) numbers

-- the index finds the fragments of some rows by the words of their vectors
pub record IsIndexed (by_vector : VectorIndex) (rows : List (List ℕ)) : Type 0 where
  pub placed : IsChained (bucket by_vector.seed (length by_vector.heads.items)) by_vector.heads.items by_vector.before.items (vectors_at rows by_vector.numbers.items)
  pub there : (k : ℕ) → k < length by_vector.numbers.items → 2 * get_or by_vector.numbers.items k 0 + 1 < length rows

-- one more fragment may be added: its vector is new and belongs in this bucket
pub record CanIndex (by_vector : VectorIndex) (rows : List (List ℕ)) (place number : ℕ) : Type 0 where
  pub found : IsIndexed by_vector rows
  pub there : 2 * number + 1 < length rows
  pub in_bucket : place ≡ bucket by_vector.seed (length by_vector.heads.items) (get_or rows (2 * number + 1) [])
  pub new : is_new (vectors_at rows by_vector.numbers.items) (get_or rows (2 * number + 1) [])

-- each group has its pictures and, at the same place, its vector in the index
pub record AreGrouped (by_vector : VectorIndex) (rows pictures : List (List ℕ)) : Type 0 where
  pub found : IsIndexed by_vector rows
  pub even : length rows ≡ 2 * length by_vector.numbers.items
  pub counted : length pictures ≡ length (vectors_at rows by_vector.numbers.items)
  pub whole : (k : ℕ) → k < length (vectors_at rows by_vector.numbers.items) → IsRow (get_or (vectors_at rows by_vector.numbers.items) k [])
