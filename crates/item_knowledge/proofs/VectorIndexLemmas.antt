-- Groups whose vectors stand in rows.
use Rattle.std.proofs.Common.{◌≡◌, ℕ, suc, ◌+◌, ◌*◌, ◌<◌, List, [], ◌∷◌, ◌++◌, length, get_or, set, zero, refl, sym, subst, ap, ◌∙◌, arith, length-set, append_assoc}
use Rattle.std.proofs.Math.ListN.{get_or-append}
use Rattle.std.proofs.lemmas.List.{get_or-map, length-map, map-append}
use Rattle.std.proofs.lemmas.Simd.{length-zip2, get_or-zip2}
use Rattle.std.proofs.lemmas.Grind.{common_steps}
use Rattle.item_knowledge.specs.Excess.{AllDiffer}
use Rattle.item_knowledge.specs.Fragments.{nothing}
use Rattle.item_knowledge.specs.declared.vector_index.VectorIndex.{VectorIndex}
use Rattle.item_knowledge.specs.VectorIndex.{bucket, is_new, vectors_at, IsChained, IsIndexed, CanIndex, AreGrouped}
use Rattle.item_knowledge.specs.Rows.{pairs, grouped}
use Rattle.item_knowledge.proofs.ChainLemmas.{pushed}
use Rattle.item_knowledge.proofs.MergeLemmas.{snoc_each}

-- Vectors of fragments by their numbers

pub vectors_length : (rows : List (List ℕ)) (numbers : List ℕ) → length (vectors_at rows numbers) ≡ length numbers
vectors_length rows numbers = length-map numbers (λ n. get_or rows (2 * n + 1) [])

pub vector_there : (rows : List (List ℕ)) (numbers : List ℕ) (k n : ℕ) → k < length numbers → n ≡ get_or numbers k 0 → get_or rows (2 * n + 1) [] ≡ get_or (vectors_at rows numbers) k []
vector_there rows numbers k n l e = ap (λ m. get_or rows (2 * m + 1) []) e ∙ sym (get_or-map (λ m. get_or rows (2 * m + 1) []) numbers k 0 [] l)

pub vectors_push : (rows : List (List ℕ)) (numbers : List ℕ) (n : ℕ) → vectors_at rows (numbers ++ n ∷ []) ≡ vectors_at rows numbers ++ get_or rows (2 * n + 1) [] ∷ []
vectors_push rows numbers n = map-append (λ m. get_or rows (2 * m + 1) []) numbers (n ∷ [])

-- more rows behind them change nothing
pub vectors_grown : (rows more : List (List ℕ)) (numbers : List ℕ) → ((k : ℕ) → k < length numbers → 2 * get_or numbers k 0 + 1 < length rows) → vectors_at (rows ++ more) numbers ≡ vectors_at rows numbers
vectors_grown rows more [] h = refl
vectors_grown rows more (n ∷ numbers) h = λ i. get_or-append rows more [] (2 * n + 1) (h 0 (omega arith)) i ∷ vectors_grown rows more numbers (λ k l. h (suc k) (omega (arith, l))) i

pub none_placed : (by_vector : VectorIndex) (rows pictures : List (List ℕ)) → ((rs : List (List ℕ)) → IsIndexed by_vector rs) → by_vector.numbers.items ≡ [] → rows ≡ [] → pictures ≡ [] → AreGrouped by_vector rows pictures
none_placed by_vector rows pictures found n r p = grind (arith, found rows, vectors_length rows by_vector.numbers.items)

-- one fragment more is found
pub placed_more : (by_vector new : VectorIndex) (rows : List (List ℕ)) (b n : ℕ) → CanIndex by_vector rows b n → new.seed ≡ by_vector.seed
    → new.before.items ≡ by_vector.before.items ++ get_or by_vector.heads.items b 0 ∷ [] → new.numbers.items ≡ by_vector.numbers.items ++ n ∷ [] → new.heads.items ≡ set by_vector.heads.items b (length new.before.items) → IsIndexed new rows
placed_more by_vector new rows b n can seed before numbers heads =
    let bucket_of = bucket by_vector.seed (length by_vector.heads.items) in
    let row = get_or rows (2 * n + 1) [] in
    let many : length new.heads.items ≡ length by_vector.heads.items = ap length heads ∙ length-set by_vector.heads.items b (length new.before.items) in
    record {
      placed = subst (λ f. IsChained f new.heads.items new.before.items (vectors_at rows new.numbers.items)) (λ i. bucket (sym seed i) (sym many i))
          (pushed bucket_of (vectors_at rows by_vector.numbers.items) row by_vector.heads.items by_vector.before.items can.found.placed (can.found.placed.below row) new.heads.items new.before.items (vectors_at rows new.numbers.items) can.new
          (before ∙ ap (λ c. by_vector.before.items ++ get_or by_vector.heads.items c 0 ∷ []) can.in_bucket) (ap (vectors_at rows) numbers ∙ vectors_push rows by_vector.numbers.items n)
          (heads ∙ ap (λ c. set by_vector.heads.items c (length new.before.items)) can.in_bucket));
      there = subst (λ ns. (k : ℕ) → k < length ns → 2 * get_or ns k 0 + 1 < length rows) (sym numbers) (snoc_each (λ _ m. 2 * m + 1 < length rows) by_vector.numbers.items n 0 can.found.there can.there);
    }

-- the row of a group that comes behind the others
pub record IsBehind (by_vector : VectorIndex) (rows new : List (List ℕ)) (row : List ℕ) (b n : ℕ) : Type 0 where
  pub more : length new ≡ length rows + 2
  pub vectors : (numbers : List ℕ) → numbers ≡ by_vector.numbers.items ++ n ∷ [] → vectors_at new numbers ≡ vectors_at rows by_vector.numbers.items ++ row ∷ []
  pub can : CanIndex by_vector new b n

pub behind : (by_vector : VectorIndex) (rows new pictures : List (List ℕ)) (row : List ℕ) (b n : ℕ) → AreGrouped by_vector rows pictures → new ≡ (rows ++ [] ∷ []) ++ row ∷ [] → n ≡ length by_vector.numbers.items
    → b ≡ bucket by_vector.seed (length by_vector.heads.items) row → is_new (vectors_at rows by_vector.numbers.items) row → IsBehind by_vector rows new row b n
behind by_vector rows new pictures row b n h is number in_bucket fresh =
    let more : length new ≡ length rows + 2 = grind (arith, common_steps) in
    let same : vectors_at new by_vector.numbers.items ≡ vectors_at rows by_vector.numbers.items =
    ap (λ rs. vectors_at rs by_vector.numbers.items) (is ∙ append_assoc rows ([] ∷ []) (row ∷ [])) ∙ vectors_grown rows ([] ∷ row ∷ []) by_vector.numbers.items h.found.there in
    let at_end : get_or new (2 * n + 1) [] ≡ row = grind (arith, common_steps, h.even) in
    record {
      more = more;
      vectors = λ numbers pushed. ap (vectors_at new) pushed ∙ vectors_push new by_vector.numbers.items n ∙ (λ i. same i ++ at_end i ∷ []);
      can = grind (arith, h.found.placed, h.found.there, same, more, at_end, number, h.even, in_bucket, fresh);
    }

-- Groups beside their vectors

pub grouped_length : (groups rows : List (List ℕ)) → length groups ≡ length rows → length (grouped groups rows) ≡ length rows
grouped_length groups rows l = length-zip2 _ groups rows l ∙ l

pub grouped_at : (groups rows : List (List ℕ)) (k : ℕ) → length groups ≡ length rows → k < length rows → get_or (grouped groups rows) k nothing ≡ record { pictures = get_or groups k []; entries = pairs (get_or rows k []) }
grouped_at groups rows k l m = get_or-zip2 _ groups rows k [] [] nothing (omega (arith, l, m)) m

pub grouped_set : (groups rows : List (List ℕ)) (k : ℕ) (ps : List ℕ) → length groups ≡ length rows → k < length rows → grouped (set groups k ps) rows ≡ set (grouped groups rows) k (record { pictures = ps; entries = pairs (get_or rows k []) })
grouped_set (qs ∷ groups) (ws ∷ rows) zero ps l m = refl
grouped_set (qs ∷ groups) (ws ∷ rows) (suc k) ps l m = ap (λ gs. record { pictures = qs; entries = pairs ws } ∷ gs) (grouped_set groups rows k ps (omega arith) (omega arith))
grouped_set groups rows k ps l m = absurd (omega arith)

pub grouped_push : (groups rows : List (List ℕ)) (ps row : List ℕ) → length groups ≡ length rows → grouped (groups ++ ps ∷ []) (rows ++ row ∷ []) ≡ grouped groups rows ++ record { pictures = ps; entries = pairs row } ∷ []
grouped_push [] [] ps row l = refl
grouped_push (qs ∷ groups) (ws ∷ rows) ps row l = ap (λ gs. record { pictures = qs; entries = pairs ws } ∷ gs) (grouped_push groups rows ps row (omega arith))
grouped_push groups rows ps row l = absurd (omega arith)

pub placed_differ : (by_vector : VectorIndex) (rows groups : List (List ℕ)) → AreGrouped by_vector rows groups → AllDiffer (grouped groups (vectors_at rows by_vector.numbers.items))
placed_differ by_vector rows groups h j k l m e =
    let vectors = vectors_at rows by_vector.numbers.items in
    grind (arith, grouped_length groups vectors h.counted, grouped_at groups vectors j h.counted, grouped_at groups vectors k h.counted, h.whole j, h.whole k, h.found.placed.once j k)
