-- A union in which each picture that is listed has a fragment of its own: where their vectors differ it is the normal form.
use Rattle.std.proofs.Common.{◌≡◌, ℕ, zero, suc, ◌+◌, ◌*◌, ◌<◌, Bool, true, false, not, ◌⊎◌, List, [], ◌∷◌, ◌++◌, length, get_or, map, refl, sym, subst, ap, ◌∙◌, inl, inr, arith, append_assoc, append-nil, length-append}
use Rattle.std.specs.List.{list_all}
use Rattle.std.proofs.Math.Path.{transport}
use Rattle.std.proofs.lemmas.List.{get_or-map, length-map}
use Rattle.std.proofs.lemmas.Bool.{and_parts, not-true, false≢true}
use Rattle.item_knowledge.specs.Tables.{in_order}
use Rattle.item_knowledge.specs.Entries.{Entry, same_entries}
use Rattle.item_knowledge.specs.Excess.{AllDiffer, union_vector}
use Rattle.item_knowledge.specs.Fragments.{Fragment, first, nothing, entries_at}
use Rattle.item_knowledge.specs.Gathering.{IsOperand, IsGathered, star_first, paired}
use Rattle.item_knowledge.specs.declared.vector_index.VectorIndex.{VectorIndex}
use Rattle.item_knowledge.specs.VectorIndex.{is_new, vectors_at, IsIndexed}
use Rattle.item_knowledge.specs.BoundFilter.{is_marked, AreMarked}
use Rattle.item_knowledge.specs.Rows.{flat, fragments_of, rows_of, AreRows}
use Rattle.item_knowledge.specs.Written.{IsBeyond, IsWritten, union_table}
use Rattle.item_knowledge.specs.DistinctUnion.{numbered, spread_of, FromLeft, IsListed, AreThere, AreDistinct, IsOther, AreOthers, AreAllDistinct, IsSpread}
use Rattle.item_knowledge.proofs.GatherLemmas.{of_one, group_begun, one_gathered, none_gathered, table_others}
use Rattle.item_knowledge.proofs.VectorIndexLemmas.{vectors_length, vector_there}
use Rattle.item_knowledge.proofs.RowLemmas.{entries_row, fragments_rows, rows_rows}
use Rattle.item_knowledge.proofs.UnionLemmas.{union_order, beyond_of}

-- Fragments of one picture each are what is gathered

abbrev apart_of : List (ℕ × List Entry) → List Fragment
apart_of ts = map (λ t. of_one t.0 t.1) ts

all_begun : (table ts : List (ℕ × List Entry)) (gs : List Fragment) (index : List (ℕ × ℕ)) → in_order table ≡ true → list_all (λ t. not (same_entries [] t.1)) ts ≡ true → IsGathered table ts gs index
    → IsGathered table [] (gs ++ apart_of ts) (index ++ numbered (length gs + 1) (apart_of ts))
all_begun table [] gs index order others h = transport (λ i. IsGathered table [] (sym (append-nil gs) i) (sym (append-nil index) i)) h
all_begun table (t ∷ ts) gs index order others h =
    let more : length (gs ++ of_one t.0 t.1 ∷ []) ≡ length gs + 1 = length-append gs (of_one t.0 t.1 ∷ []) in
    let added = group_begun t.0 t.1 gs _ (length gs) refl refl in
    let made = all_begun table ts _ _ order (and_parts _ _ others).1 (one_gathered h refl order _ (length gs) _ added (not-true _ (and_parts _ _ others).0) refl) in
    let next : length (gs ++ of_one t.0 t.1 ∷ []) + 1 ≡ suc (length gs + 1) = omega (arith, more) in
    let numbers = ap (λ n. (index ++ (t.0, length gs + 1) ∷ []) ++ numbered n (apart_of ts)) next ∙ append_assoc index ((t.0, length gs + 1) ∷ []) (numbered (suc (length gs + 1)) (apart_of ts)) in
    transport (λ i. IsGathered table [] (append_assoc gs (of_one t.0 t.1 ∷ []) (apart_of ts) i) (numbers i)) made

-- Fragments with their index

pub rows_snoc : (fs : List Fragment) (p : ℕ) (v : List Entry) → rows_of (fs ++ of_one p v ∷ []) ≡ (rows_of fs ++ (p ∷ []) ∷ []) ++ flat v ∷ []
rows_snoc [] p v = refl
rows_snoc (f ∷ fs) p v = ap (λ rs. f.pictures ∷ flat f.entries ∷ rs) (rows_snoc fs p v)

pub numbered_snoc : (n : ℕ) (gs : List Fragment) (p : ℕ) (v : List Entry) → numbered n (gs ++ of_one p v ∷ []) ≡ numbered n gs ++ (p, n + length gs) ∷ []
numbered_snoc n [] p v = let e : n ≡ n + 0 = omega arith in ap (λ m. (p, m) ∷ []) e
numbered_snoc n (g ∷ gs) p v = let rest = numbered_snoc (suc n) gs p v in grind arith

pub numbered_length : (n : ℕ) (gs : List Fragment) → length (numbered n gs) ≡ length gs
numbered_length n [] = refl
numbered_length n (g ∷ gs) = ap suc (numbered_length (suc n) gs)

numbered_at : (n : ℕ) (gs : List Fragment) (k : ℕ) → k < length gs → get_or (numbered n gs) k (0, 0) ≡ (first (get_or gs k nothing).pictures, n + k)
numbered_at n [] k l = absurd (omega (arith, l))
numbered_at n (g ∷ gs) zero l = grind arith
numbered_at n (g ∷ gs) (suc k) l = grind (arith, numbered_at (suc n) gs k)

-- Vectors that were found to differ one after another

module _ (by_vector : VectorIndex) (rows : List (List ℕ)) (listed : List (ℕ × ℕ)) (noted : by_vector.numbers.items ≡ map (λ (x : ℕ × ℕ). x.1) listed) where
  many : length (vectors_at rows by_vector.numbers.items) ≡ length listed
  many = vectors_length rows by_vector.numbers.items ∙ ap (length {A = ℕ}) noted ∙ length-map listed (λ (x : ℕ × ℕ). x.1)

  at : (n : ℕ) → n < length listed → get_or rows (2 * (get_or listed n (0, 0)).1 + 1) [] ≡ get_or (vectors_at rows by_vector.numbers.items) n []
  at n b = grind (arith, many, vectors_length rows by_vector.numbers.items, noted, get_or-map (λ (x : ℕ × ℕ). x.1) listed n (0, 0) 0 b, vector_there rows by_vector.numbers.items n (get_or listed n (0, 0)).1)

  pub all_apart : IsIndexed by_vector rows → AreDistinct rows listed
  all_apart found j k l m e = found.placed.once j k l (omega (arith, many, m)) (sym (at j (omega (arith, l, m))) ∙ e ∙ at k m)

  -- a vector that is found nowhere
  pub new_other : (number : ℕ) → is_new (vectors_at rows by_vector.numbers.items) (get_or rows (2 * number + 1) []) → IsOther rows listed number
  new_other number new n l e = new n (omega (arith, many, l)) (sym (at n l) ∙ sym e)

-- a vector without a mark
pub unmarked_other : (marks : List Bool) (rows : List (List ℕ)) (listed : List (ℕ × ℕ)) (number : ℕ) → AreMarked marks rows listed → is_marked marks (get_or rows (2 * number + 1) []) ≡ false → IsOther rows listed number
unmarked_other marks rows listed number h none n l e = false≢true (sym none ∙ ap (is_marked marks) e ∙ h n l)

-- What is written

module _ {left : List (List ℕ)} {gs : List Fragment} {rows : List (List ℕ)} {index joined : List (ℕ × ℕ)} (h : IsSpread left gs rows index joined) where
  fragments : fragments_of rows ≡ star_first [] gs
  fragments = ap fragments_of h.rows_are ∙ fragments_rows (star_first [] gs)

  pub spread_rows : AreRows rows
  spread_rows = subst AreRows (sym h.rows_are) (rows_rows (star_first [] gs))

  pub there_index : AreThere rows index
  there_index m l = grind (arith, h.index_is, numbered_length 1 gs, numbered_at 1 gs m, fragments)

  pub there_joined : AreThere rows joined
  there_joined m l = omega (arith, ap (length {A = Fragment}) fragments, h.there m l)

  vector : (k n : ℕ) → k < length gs → n ≡ suc k → get_or rows (2 * n + 1) [] ≡ flat (entries_at gs k)
  vector k n l e = grind (arith, h.rows_are, entries_row (star_first [] gs) (suc k))

  told_at : AreOthers rows index joined → (k : ℕ) → k < length gs → IsListed joined (suc k) ⊎ IsOther rows joined (suc k)
  told_at others k l =
      let number : (get_or index k (0, 0)).1 ≡ suc k = grind (arith, h.index_is, numbered_at 1 gs k l) in
      subst (λ n. IsListed joined n ⊎ IsOther rows joined n) number (others k (grind (arith, h.index_is, numbered_length 1 gs)))

  -- one that is listed doesn't differ from all that are
  one_joined : (j k : ℕ) → j < length gs → k < length gs → entries_at gs k ≡ entries_at gs j → IsListed joined (suc j) → IsOther rows joined (suc k) → ⊥
  one_joined j k l m e a other = other a.place a.there (vector k (suc k) m refl ∙ ap flat e ∙ sym (vector j _ l a.is))

  both_joined : AreDistinct rows joined → (j k : ℕ) → j < k → k < length gs → entries_at gs j ≡ entries_at gs k → IsListed joined (suc j) → IsListed joined (suc k) → ⊥
  both_joined apart j k l m e a b = grind (arith, apart a.place b.place, apart b.place a.place, a.there, b.there, a.is, b.is, vector j _ (omega (arith, l, m)) a.is, vector k _ m b.is)

-- Once its vectors are told apart it is the union

module _ (left right : List (List ℕ)) (xs ys : List (ℕ × ℕ)) (star : List Entry) (rows : List (List ℕ)) (index joined : List (ℕ × ℕ))
    (differ : AllDiffer (fragments_of left)) (left_operand : IsOperand (fragments_of left) xs) (right_operand : IsOperand (fragments_of right) ys)
    (h : IsSpread left (spread_of star (fragments_of left) (fragments_of right) xs ys) rows index joined) where
  abbrev all : List Fragment
  all = spread_of star (fragments_of left) (fragments_of right) xs ys

  abbrev table : List (ℕ × List Entry)
  table = union_table star (fragments_of left) (fragments_of right) xs ys

  made : IsGathered table [] all (numbered 1 all)
  made = all_begun table table [] [] (union_order star (fragments_of left) (fragments_of right) xs ys right_operand) (table_others (union_vector star (fragments_of left) (fragments_of right)) (paired xs ys)) (none_gathered table table [] [] refl refl refl)

  pictures_differ : (j k : ℕ) → j < k → k < length all → (get_or all j nothing).pictures ≡ (get_or all k nothing).pictures → ⊥
  pictures_differ j k l m e = let less = made.order j k l m in let same = ap first e in omega (arith, less, same)

  both_left : (g k : Fragment) → (g.pictures ≡ k.pictures → ⊥) → g.entries ≡ k.entries → FromLeft left g → FromLeft left k → ⊥
  both_left g k other e a b = grind (arith, differ a.number b.number, differ b.number a.number, a.there, b.there, a.is, b.is, a.alone, b.alone)

  -- one that differs from all that were joined is the left's
  from_left : (k : ℕ) → k < length all → IsOther rows joined (suc k) → FromLeft left (get_or all k nothing)
  from_left k l other = elim (h.origins k l) [ inl a ↦ absurd (one_joined h k k l l refl a other) | inr b ↦ b ]

  all_differ : AreAllDistinct rows index joined → AllDiffer all
  all_differ told j k l m e = grind (arith, told_at h told.1 j, told_at h told.1 k, both_joined h told.0 j k, one_joined h j k, one_joined h k j, both_left (get_or all j nothing) (get_or all k nothing) (pictures_differ j k l m) e, from_left j, from_left k)

  pub distinct_written : entries_at (fragments_of left) 0 ≡ [] → entries_at (fragments_of right) 0 ≡ [] → AreAllDistinct rows index joined → IsWritten star (fragments_of left) xs (fragments_of right) ys rows index
  distinct_written one other told = record {
    us = star_first [] all;
    rows = h.rows_are;
    union = subst (λ ns. IsBeyond star (fragments_of left) xs (fragments_of right) ys (star_first [] all) ns) (sym h.index_is)
        (beyond_of star (fragments_of left) (fragments_of right) xs ys left_operand right_operand one other all (numbered 1 all) made (all_differ told));
  }
