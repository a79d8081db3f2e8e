-- Rows that are found by their hashes.
use Rattle.std.proofs.Common.{◌≡◌, ℕ, suc, ◌<◌, ◌≤◌, ◌-◌, ◌*◌, ◌^◌, List, [], ◌∷◌, ◌++◌, length, get_or, set, replicate, bit_xor, arith}
use Rattle.std.specs.Int.{rotate_left, w64}
use Rattle.std.proofs.Math.ListN.{get_or-append}
use Rattle.std.proofs.Math.Seq.{get_or-append_seam}
use Rattle.std.proofs.lemmas.Bool.{cases_eq, cases_lt}
use Rattle.std.proofs.lemmas.Grind.{common_steps}
use Rattle.std.proofs.lemmas.Nat.{div_below}
use Rattle.std.proofs.Math.Nat.{mod-lt, mul-lt-mul_of_pos_right}
use Rattle.item_knowledge.specs.VectorIndex.{mixed, hashed, share, bucket, IsLast, is_new, IsChained}

-- The bucket of a row

pub share_below : (count hash : ℕ) → 0 < count → hash < 2 ^ 64 → share count hash < count
unfolding share
share_below count hash some h =
    let most : hash * count < 2 ^ 64 * count = mul-lt-mul_of_pos_right h some in
    div_below (hash * count) (2 ^ 64) count (omega arith) (omega (arith, most))

pub mixed_below : (hash word : ℕ) → mixed hash word < 2 ^ 64
unfolding mixed
mixed_below hash word = mod-lt (bit_xor (rotate_left w64 hash 23) word * 11400714819323198485) (omega arith)

hashed_below : (hash : ℕ) (row : List ℕ) → hash < 2 ^ 64 → hashed hash row < 2 ^ 64
hashed_below hash [] h = h
hashed_below hash (w ∷ ws) h = hashed_below (mixed hash w) ws (mixed_below hash w)

pub bucket_below : (seed count : ℕ) (row : List ℕ) → 0 < count → bucket seed count row < count
bucket_below seed count row some = share_below count (hashed (mixed seed 0) row) some (hashed_below (mixed seed 0) row (mixed_below seed 0))

-- A search along the rows of a bucket, the latest first

-- the rows from this place on are others than the one that is looked for
pub record Along (bucket_of : List ℕ → ℕ) (rows : List (List ℕ)) (row : List ℕ) (place : ℕ) : Type 0 where
  pub within : place ≤ length rows
  pub there : 0 < place → bucket_of (get_or rows (place - 1) []) ≡ bucket_of row
  pub others : (k : ℕ) → place ≤ k → k < length rows → get_or rows k [] ≡ row → ⊥

-- it begins at the bucket's latest row
pub along_first : (bucket_of : List ℕ → ℕ) (heads before : List ℕ) (rows : List (List ℕ)) (row : List ℕ) (b place : ℕ) → IsChained bucket_of heads before rows → b ≡ bucket_of row → b < length heads → place ≡ get_or heads b 0 → Along bucket_of rows row place
along_first bucket_of heads before rows row b place h is l at = grind (arith, h.latest b l, at, is)

-- One row more

module _ (bucket_of : List ℕ → ℕ) (rows : List (List ℕ)) (row : List ℕ) where
  at_end : get_or (rows ++ row ∷ []) (length rows) [] ≡ row
  at_end = get_or-append_seam rows row [] []

  last_more : (b first place : ℕ) → first ≤ length rows → IsLast bucket_of b rows first place → IsLast bucket_of b (rows ++ row ∷ []) first place
  last_more b first place l h = grind (arith, h.within, h.there, h.none_later, get_or-append rows (row ∷ []) [])

  once_more : ((j k : ℕ) → j < k → k < length rows → get_or rows j [] ≡ get_or rows k [] → ⊥) → is_new rows row → (j k : ℕ) → j < k → k < suc (length rows) → get_or (rows ++ row ∷ []) j [] ≡ get_or (rows ++ row ∷ []) k [] → ⊥
  once_more once new j k l m e = grind (arith, get_or-append rows (row ∷ []) [] j, get_or-append rows (row ∷ []) [] k, at_end, once j k, new j)

  module _ (heads before : List ℕ) (h : IsChained bucket_of heads before rows) (l : bucket_of row < length heads) where
    heads_more : (c : ℕ) → c < length heads → IsLast bucket_of c (rows ++ row ∷ []) (suc (length rows)) (get_or (set heads (bucket_of row) (suc (length rows))) c 0)
    heads_more c m = grind (arith, common_steps, cases_eq c (bucket_of row), at_end, last_more c (length rows) (get_or heads c 0), h.latest c m)

    before_more : (k : ℕ) → k < suc (length rows) → IsLast bucket_of (bucket_of (get_or (rows ++ row ∷ []) k [])) (rows ++ row ∷ []) k (get_or (before ++ get_or heads (bucket_of row) 0 ∷ []) k 0)
    before_more k m = grind (arith, common_steps, cases_lt k (length rows), last_more (bucket_of (get_or rows k [])) k (get_or before k 0), last_more (bucket_of row) (length rows) (get_or heads (bucket_of row) 0), h.earlier k, h.latest (bucket_of row) l, h.counted, at_end)

    -- what the code holds after a row came to the end
    pub pushed : (heads_new before_new : List ℕ) (rows_new : List (List ℕ)) → is_new rows row → before_new ≡ before ++ get_or heads (bucket_of row) 0 ∷ [] → rows_new ≡ rows ++ row ∷ [] → heads_new ≡ set heads (bucket_of row) (length before_new) → IsChained bucket_of heads_new before_new rows_new
    pushed heads_new before_new rows_new new e f g = grind (arith, common_steps, heads_more, before_more, once_more h.once new, h.below, h.counted)

-- no rows yet
pub none_placed : (bucket_of : List ℕ → ℕ) (heads before : List ℕ) (rows : List (List ℕ)) (count : ℕ) → ((row : List ℕ) → bucket_of row < length heads) → heads ≡ replicate count 0 → before ≡ [] → rows ≡ [] → IsChained bucket_of heads before rows
none_placed bucket_of heads before rows count below free none empty = grind (arith, common_steps, below)
