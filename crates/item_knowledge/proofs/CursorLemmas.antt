-- A cursor along two sorted lists of pairs: of two indexes, and of two rows.
use Rattle.std.proofs.Common.{◌≡◌, ℕ, zero, suc, ◌<◌, Bool, true, ltb, eqb, max, ◌||◌, List, [], ◌∷◌, length, drop, refl, sym, subst, ap, ◌∙◌, arith}
use Rattle.std.specs.List.{list_all}
use Rattle.std.proofs.lemmas.Bool.{and_parts, ltb-true}
use Rattle.std.proofs.lemmas.Bool.Decides.{nat_tests}
use Rattle.std.proofs.Math.Nat.{max-zero, zero-max}
use Rattle.item_knowledge.specs.declared.pair_cursor.PairCursor.{PairCursor}
use Rattle.item_knowledge.specs.Entries.{joined}
use Rattle.item_knowledge.specs.Fragments.{Fragment}
use Rattle.item_knowledge.specs.Gathering.{paired, IsOperand}
use Rattle.item_knowledge.specs.PairCursor.{left_of, entries_left}
use Rattle.item_knowledge.specs.Rows.{pairs}
use Rattle.item_knowledge.specs.Tables.{keys_pass, in_order, put, each}
use Rattle.item_knowledge.proofs.SearchLemmas.{order_from}
use Rattle.item_knowledge.proofs.TableLemmas.{merge_all}

-- The join of two rows is what is paired of them, each author with the greater bound

abbrev greater : ℕ × ℕ → ℕ
greater k = max k.0 k.1

all_pass : (ys : List (ℕ × ℕ)) → list_all (λ (y : ℕ × ℕ). true) ys ≡ true
all_pass [] = refl
all_pass (y ∷ ys) = all_pass ys

put_greater : (x : ℕ × ℕ) (ts : List (ℕ × (ℕ × ℕ))) → list_all (λ (t : ℕ × (ℕ × ℕ)). ltb x.0 t.0 || eqb t.1.0 0) ts ≡ true
    → put (λ (n : ℕ). n) (λ (n m : ℕ). max n m) x (each greater ts) ≡ each greater (put (λ (n : ℕ). (n, 0)) (λ (n : ℕ) (k : ℕ × ℕ). (n, k.1)) x ts)
put_greater x [] h = grind (arith, nat_tests, max-zero x.1)
put_greater x (t ∷ ts) h = grind (arith, nat_tests, max-zero x.1, zero-max t.1.1, put_greater x ts)

alone_right : (ys : List (ℕ × ℕ)) → each (λ (m : ℕ). m) ys ≡ each greater (each (λ (m : ℕ). (0, m)) ys)
alone_right [] = refl
alone_right (y ∷ ys) = λ i. (y.0, sym (zero-max y.1) i) ∷ alone_right ys i

joined_paired : (xs ys : List (ℕ × ℕ)) → in_order xs ≡ true → joined xs ys ≡ each greater (paired xs ys)
joined_paired [] ys h = alone_right ys
joined_paired (x ∷ xs) ys h =
    let a = and_parts (keys_pass (λ k. ltb x.0 k) xs) (in_order xs) h in
    let rest = merge_all (λ (n : ℕ). (n, 0)) (λ (n : ℕ) (k : ℕ × ℕ). (n, k.1)) (λ (m : ℕ). (0, m)) (λ (e : ℕ × ℕ). ltb x.0 e.0) (λ (y : ℕ × ℕ). true) (λ (t : ℕ × (ℕ × ℕ)). ltb x.0 t.0 || eqb t.1.0 0)
    (λ e p. grind (arith, nat_tests, p)) (λ e t p q. grind (arith, nat_tests, p)) (λ y e. grind (arith, nat_tests)) xs ys a.0 (all_pass ys) in
    ap (put (λ (n : ℕ). n) (λ (n m : ℕ). max n m) x) (joined_paired xs ys a.1) ∙ put_greater x (paired xs ys) rest

module _ (at then : PairCursor) (xs ys : List ℕ) (order : in_order (pairs xs) ≡ true) where
  of_pairs : (here : PairCursor) → entries_left here xs ys ≡ each greater (left_of here (pairs xs) (pairs ys))
  of_pairs here = joined_paired (drop here.left (pairs xs)) (drop here.right (pairs ys)) (order_from (pairs xs) here.left order)

  pub next_joined : (r : ℕ × (ℕ × ℕ)) → left_of at (pairs xs) (pairs ys) ≡ r ∷ left_of then (pairs xs) (pairs ys) → entries_left at xs ys ≡ (r.0, max r.1.0 r.1.1) ∷ entries_left then xs ys
  next_joined r step = of_pairs at ∙ (ap (each greater) step ∙ ap (λ es. (r.0, max r.1.0 r.1.1) ∷ es) (sym (of_pairs then)))

  pub none_joined : left_of at (pairs xs) (pairs ys) ≡ [] → entries_left at xs ys ≡ []
  none_joined none = of_pairs at ∙ ap (each greater) none

-- The numbers that are paired are those of fragments

all_from : (test : ℕ × ℕ → Bool) (xs : List (ℕ × ℕ)) (i : ℕ) → list_all test xs ≡ true → list_all test (drop i xs) ≡ true
all_from test xs zero h = h
all_from test [] (suc i) h = refl
all_from test (x ∷ xs) (suc i) h = all_from test xs i (and_parts (test x) (list_all test xs) h).1

module _ (fs gs : List Fragment) (xs ys : List (ℕ × ℕ)) (at then : PairCursor) (r : ℕ × (ℕ × ℕ)) (h : IsOperand fs xs) (g : IsOperand gs ys) (step : left_of at xs ys ≡ r ∷ left_of then xs ys) where
  first_of : (test : ℕ × (ℕ × ℕ) → Bool) → list_all test (left_of at xs ys) ≡ true → test r ≡ true
  first_of test all = (and_parts (test r) (list_all test (left_of then xs ys)) (subst (λ rs. list_all test rs ≡ true) step all)).0

  pub left_number : r.1.0 < length fs
  left_number = ltb-true r.1.0 (length fs) (first_of (λ (t : ℕ × (ℕ × ℕ)). ltb t.1.0 (length fs))
      (merge_all (λ (n : ℕ). (n, 0)) (λ (n : ℕ) (k : ℕ × ℕ). (n, k.1)) (λ (m : ℕ). (0, m)) (λ (e : ℕ × ℕ). ltb e.1 (length fs)) (λ (e : ℕ × ℕ). ltb e.1 (length gs)) _
      (λ e p. p) (λ e t p q. p) (λ y q. grind (arith, nat_tests, h.star)) (drop at.left xs) (drop at.right ys) (all_from _ xs at.left h.range) (all_from _ ys at.right g.range)))

  pub right_number : r.1.1 < length gs
  right_number = ltb-true r.1.1 (length gs) (first_of (λ (t : ℕ × (ℕ × ℕ)). ltb t.1.1 (length gs))
      (merge_all (λ (n : ℕ). (n, 0)) (λ (n : ℕ) (k : ℕ × ℕ). (n, k.1)) (λ (m : ℕ). (0, m)) (λ (e : ℕ × ℕ). ltb e.1 (length fs)) (λ (e : ℕ × ℕ). ltb e.1 (length gs)) _
      (λ e p. grind (arith, nat_tests, g.star)) (λ e t p q. q) (λ y q. q) (drop at.left xs) (drop at.right ys) (all_from _ xs at.left h.range) (all_from _ ys at.right g.range)))
