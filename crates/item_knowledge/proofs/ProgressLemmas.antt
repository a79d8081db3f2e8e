-- A union in which each picture has a fragment of its own, on the way along two indexes.
use Rattle.std.proofs.Common.{◌≡◌, ℕ, suc, ◌+◌, ◌-◌, ◌*◌, ◌<◌, ◌≤◌, true, false, ◌⊎◌, List, [], ◌∷◌, ◌++◌, length, get_or, take, drop, refl, sym, subst, ap, ◌∙◌, inl, inr, arith, append_assoc, append-nil, length-append}
use Rattle.std.proofs.lemmas.Grind.{common_steps}
use Rattle.std.proofs.lemmas.Bool.Decides.{nat_tests}
use Rattle.fragment_arena.proofs.RunLemmas.{run-split}
use Rattle.fragment_arena.specs.Arena.{run}
use Rattle.item_knowledge.specs.DistinctUnion.{singles, FromLeft, IsListed, IsSpread, Stays}
use Rattle.item_knowledge.specs.Entries.{Entry, same_entries}
use Rattle.item_knowledge.specs.Excess.{exceeding, is_covered, union_vector, IsExcess, AllDiffer}
use Rattle.item_knowledge.specs.Fragments.{Fragment, nothing, entries_at}
use Rattle.item_knowledge.specs.Gathering.{star_first}
use Rattle.item_knowledge.specs.declared.pair_cursor.PairCursor.{PairCursor}
use Rattle.item_knowledge.specs.PairCursor.{left_of}
use Rattle.item_knowledge.specs.Rows.{pairs, flat, IsRow, fragments_of}
use Rattle.item_knowledge.specs.Tables.{in_order}
use Rattle.item_knowledge.proofs.DistinctUnionLemmas.{rows_snoc, numbered_snoc, numbered_length}
use Rattle.item_knowledge.proofs.ExcessLemmas.{Exceeds, above_risen, covered_joined}
use Rattle.item_knowledge.proofs.FragmentLemmas.{entries_decide}
use Rattle.item_knowledge.proofs.MergeLemmas.{drop_next, snoc_each}
use Rattle.item_knowledge.specs.UnionProgress.{IsWrittenUpTo}
use Rattle.item_knowledge.proofs.GatherLemmas.{of_one}
use Rattle.item_knowledge.proofs.RowLemmas.{entries_read, rows_read}

-- Runs of the left's fragments

-- a run of fragments with one more
run_more : (rows : List (List ℕ)) (from a : ℕ) → from ≤ a → 2 * a + 1 < length rows
    → run rows (2 * from) (2 * (a + 1)) ≡ run rows (2 * from) (2 * a) ++ get_or rows (2 * a) [] ∷ get_or rows (2 * a + 1) [] ∷ []
run_more rows from a le lt =
    let two : 2 * (a + 1) - 2 * a ≡ 2 = omega arith in
    grind (arith, run-split rows (2 * from) (2 * a) (2 * (a + 1)), two, drop_next rows (2 * a) [], drop_next rows (2 * a + 1) [])

nothing_pending : (left out : List (List ℕ)) (to : ℕ) → out ++ run left to to ≡ out
nothing_pending left out to = let none : to - to ≡ 0 = omega arith in ap (λ k. out ++ take k (drop to left)) none ∙ append-nil out

-- What is listed, with one more

listed_wider : (joined : List (ℕ × ℕ)) (x : ℕ × ℕ) (n : ℕ) → IsListed joined n → IsListed (joined ++ x ∷ []) n
listed_wider joined x n h = record { place = h.place; there = grind (arith, common_steps); is = grind (arith, common_steps) }

listed_last : (joined : List (ℕ × ℕ)) (x : ℕ × ℕ) → IsListed (joined ++ x ∷ []) x.1
listed_last joined x = record { place = length joined; there = grind (arith, common_steps); is = grind (arith, common_steps) }

pub no_pairs : (words : List ℕ) → length words ≡ 0 → pairs words ≡ []
no_pairs [] none = refl
no_pairs (w ∷ ws) none = absurd (omega arith)

-- The left's fragment stays where it is above what rose of the star, and the right's is covered by both

pub covered_stays : (star : List Entry) (words others : List ℕ) (left right : List (List ℕ)) (picture : ℕ) (n : ℕ × ℕ) → IsExcess words left → IsExcess others right → in_order star ≡ true → Exceeds (exceeding (pairs words) star) (entries_at (fragments_of left) n.0) → 0 < n.0
    → get_or left (2 * n.0) [] ≡ picture ∷ [] → is_covered star (entries_at (fragments_of left) n.0) (entries_at (fragments_of right) n.1) ≡ true → Stays star left right picture n
covered_stays star words others left right picture n l r order risen beside alone covered =
    record { beside = beside; alone = alone; joint = covered_joined star _ _ (l.vectors n.0) (r.vectors n.1) (above_risen (pairs words) star (entries_at (fragments_of left) n.0) order (l.exceeds n.0) risen) covered }

-- What is written, with one fragment more

spread_more : (left : List (List ℕ)) (gs : List Fragment) (rows new : List (List ℕ)) (index more joined after : List (ℕ × ℕ)) (p : ℕ) (row : List ℕ) (v : List Entry)
    → IsSpread left gs rows index joined → new ≡ (rows ++ (p ∷ []) ∷ []) ++ row ∷ [] → row ≡ flat v → more ≡ index ++ (p, length index + 1) ∷ []
    → ((n : ℕ) → IsListed joined n → IsListed after n) → IsListed after (suc (length gs)) ⊎ FromLeft left (of_one p v) → ((m : ℕ) → m < length after → (get_or after m (0, 0)).1 < suc (suc (length gs)))
    → IsSpread left (gs ++ of_one p v ∷ []) new more after
spread_more left gs rows new index more joined after p row v h written row_is pushed wider origin below =
    let number : length index + 1 ≡ 1 + length gs = omega (arith, ap (length {A = ℕ × ℕ}) h.index_is, numbered_length 1 gs) in
    record {
      rows_are = written ∙ (λ j. (h.rows_are j ++ (p ∷ []) ∷ []) ++ row_is j ∷ []) ∙ sym (rows_snoc (star_first [] gs) p v);
      index_is = pushed ∙ (λ j. h.index_is j ++ (p, number j) ∷ []) ∙ sym (numbered_snoc 1 gs p v);
      origins = snoc_each (λ k g. IsListed after (suc k) ⊎ FromLeft left g) gs (of_one p v) nothing (λ k less. elim (h.origins k less) [ inl a ↦ inl (wider (suc k) a) | inr b ↦ inr b ]) origin;
      there = λ m l. omega (arith, below m l, length-append gs (of_one p v ∷ []));
    }

-- On the way

module _ (left right : List (List ℕ)) (xs ys : List (ℕ × ℕ)) (star : List Entry) (out : List (List ℕ)) (index joined : List (ℕ × ℕ)) (at : PairCursor) (from to : ℕ) (h : IsWrittenUpTo left right xs ys star out index joined at from to) where
  abbrev f : ℕ × ℕ → List Entry
  f = union_vector star (fragments_of left) (fragments_of right)

  -- one more
  on_more : (then : PairCursor) (r : ℕ × (ℕ × ℕ)) (new : List (List ℕ)) (more after : List (ℕ × ℕ)) (start end : ℕ) → left_of at xs ys ≡ r ∷ left_of then xs ys → same_entries [] (f r.1) ≡ false
      → IsSpread left (h.gs ++ of_one r.0 (f r.1) ∷ []) (new ++ run left (2 * start) (2 * end)) more after → start ≤ end → end ≤ length (fragments_of left) → IsWrittenUpTo left right xs ys star new more after then start end
  on_more then r new more after start end step other spread order there = record {
    gs = h.gs ++ of_one r.0 (f r.1) ∷ [];
    rest = grind (arith, append_assoc h.gs (of_one r.0 (f r.1) ∷ []) (singles [] f (left_of then xs ys)), step, other, h.rest);
    spread = spread;
    order = order;
    there = there;
  }

  pub on_joined : (then : PairCursor) (r : ℕ × (ℕ × ℕ)) (new : List (List ℕ)) (more after : List (ℕ × ℕ)) (row : List ℕ) → left_of at xs ys ≡ r ∷ left_of then xs ys
      → IsRow row → pairs row ≡ f r.1 → same_entries [] (f r.1) ≡ false
      → new ≡ ((out ++ run left (2 * from) (2 * to)) ++ (r.0 ∷ []) ∷ []) ++ row ∷ [] → more ≡ index ++ (r.0, length index + 1) ∷ [] → after ≡ joined ++ (r.0, length index + 1) ∷ []
      → IsWrittenUpTo left right xs ys star new more after then to to
  on_joined then r new more after row step is_row vector other placed pushed listed =
      let x : ℕ × ℕ = (r.0, length index + 1) in
      let long : length index + 1 ≡ suc (length h.gs) = omega (arith, ap (length {A = ℕ × ℕ}) h.spread.index_is, numbered_length 1 h.gs) in
      subst (λ ns. IsWrittenUpTo left right xs ys star new more ns then to to) (sym listed) (on_more then r new more (joined ++ x ∷ []) to to step other
      (spread_more left h.gs (out ++ run left (2 * from) (2 * to)) (new ++ run left (2 * to) (2 * to)) index more joined (joined ++ x ∷ []) r.0 row (f r.1) h.spread (nothing_pending left new (2 * to) ∙ placed) (sym is_row ∙ ap flat vector) pushed
      (listed_wider joined x)
      (inl (subst (IsListed (joined ++ x ∷ [])) long (listed_last joined x)))
      (snoc_each (λ _ y. y.1 < suc (suc (length h.gs))) joined x (0, 0) (λ m l. omega (arith, h.spread.there m l)) (omega (arith, long))))
      (omega arith) h.there)

  pub on_stays : (then : PairCursor) (r : ℕ × (ℕ × ℕ)) (new : List (List ℕ)) (more : List (ℕ × ℕ)) (start : ℕ) (words : List ℕ) → IsExcess words left → AllDiffer (fragments_of left) → left_of at xs ys ≡ r ∷ left_of then xs ys → Stays star left right r.0 r.1 → r.1.0 < length (fragments_of left)
      → start ≤ r.1.0 → new ++ run left (2 * start) (2 * r.1.0) ≡ out ++ run left (2 * from) (2 * to) → more ≡ index ++ (r.0, length index + 1) ∷ []
      → IsWrittenUpTo left right xs ys star new more joined then start (r.1.0 + 1)
  on_stays then r new more start words excess differ step s there_a begins written pushed =
      let fs = fragments_of left in
      let a = r.1.0 in
      let row = get_or left (2 * a + 1) [] in
      let is : row ≡ flat (entries_at fs a) = entries_read left a excess.are_rows there_a in
      let other : same_entries [] (f r.1) ≡ false = grind (arith, nat_tests, s.joint, (entries_decide [] (entries_at fs a)).0, differ 0 a s.beside there_a, excess.first) in
      let inside : 2 * a + 1 < length left = omega (arith, rows_read left excess.are_rows, there_a) in
      let placed : new ++ run left (2 * start) (2 * (a + 1)) ≡ ((out ++ run left (2 * from) (2 * to)) ++ (r.0 ∷ []) ∷ []) ++ row ∷ [] =
      ap (λ rs. new ++ rs) (run_more left start a begins inside)
      ∙ sym (append_assoc new (run left (2 * start) (2 * a)) (get_or left (2 * a) [] ∷ row ∷ []))
      ∙ (λ j. written j ++ s.alone j ∷ row ∷ [])
      ∙ sym (append_assoc (out ++ run left (2 * from) (2 * to)) ((r.0 ∷ []) ∷ []) (row ∷ [])) in
      on_more then r new more joined start (a + 1) step other
      (spread_more left h.gs (out ++ run left (2 * from) (2 * to)) (new ++ run left (2 * start) (2 * (a + 1))) index more joined joined r.0 row (f r.1) h.spread placed (is ∙ ap flat (sym s.joint)) pushed
      (λ n listed. listed)
      (inr (record { number = a; there = there_a; alone = s.alone; is = sym s.joint }))
      (λ m l. omega (arith, h.spread.there m l)))
      (omega (arith, begins)) (omega (arith, there_a))
