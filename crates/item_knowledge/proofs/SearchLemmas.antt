-- Searches in tables.
use Rattle.std.proofs.Common.{◌≡◌, ℕ, zero, suc, ◌+◌, ◌<◌, ◌≤◌, true, ltb, List, [], ◌∷◌, length, get_or, drop, refl, subst, ap, ◌∙◌, inl, inr, arith}
use Rattle.std.proofs.lemmas.Bool.{and_parts, ltb-true, cases_lt, cases_eq}
use Rattle.std.proofs.lemmas.Bool.Decides.{nat_tests}
use Rattle.std.proofs.lemmas.List.{drop_all}
use Rattle.item_knowledge.specs.Rows.{IsPlaceOf}
use Rattle.item_knowledge.specs.Searching.{AreBelow, IsUpTo, IsBetween}
use Rattle.item_knowledge.specs.Tables.{keys_pass, in_order, at, merge}
use Rattle.item_knowledge.proofs.MergeLemmas.{drop_next, all_at}
use Rattle.item_knowledge.proofs.TableLemmas.{at_above, above_all, merge_left, merge_right, merge_both}

-- along a table in order the numbers rise

pub first_below : (k : ℕ) (xs : List (ℕ × ℕ)) (j : ℕ) (d : ℕ × ℕ) → keys_pass (λ n. ltb k n) xs ≡ true → j < length xs → k < (get_or xs j d).0
first_below k xs j d h l = ltb-true k (get_or xs j d).0 (all_at (λ (x : ℕ × ℕ). ltb k x.0) xs j d h l)

pub rise : (xs : List (ℕ × ℕ)) → in_order xs ≡ true → (i j : ℕ) (d : ℕ × ℕ) → i < j → j < length xs → (get_or xs i d).0 < (get_or xs j d).0
rise [] h i j d le l = absurd (omega arith)
rise (x ∷ xs) h i zero d le l = absurd (omega arith)
rise (x ∷ xs) h zero (suc j) d le l = grind (arith, nat_tests, first_below x.0 xs j d)
rise (x ∷ xs) h (suc i) (suc j) d le l = rise xs (and_parts (keys_pass (λ n. ltb x.0 n) xs) (in_order xs) h).1 i j d (omega arith) (omega arith)

pub absent_at : (xs : List (ℕ × ℕ)) (p i : ℕ) → in_order xs ≡ true → IsBetween p xs i i → (i < length xs → (get_or xs i (0, 0)).0 ≡ p → ⊥) → at 0 xs p ≡ 0
absent_at [] p i o h n = refl
absent_at (x ∷ xs) p zero o h n =
    let le = h.from 0 (omega arith) (omega arith) in
    let other = n (omega arith) in
    grind (arith, nat_tests, at_above 0 xs p, above_all p x.0 xs)
absent_at (x ∷ xs) p (suc i) o h n =
    let less = h.below 0 (omega arith) in
    let rest : IsBetween p xs i i = record { inside = omega (arith, h.inside); below = λ k g. h.below (suc k) (omega arith); from = λ k g m. h.from (suc k) (omega arith) (omega arith) } in
    grind (arith, nat_tests, absent_at xs p i (and_parts (keys_pass (λ k. ltb x.0 k) xs) (in_order xs) o).1 rest (λ l. n (omega arith)))

-- where no key before a place reaches one that counts, and none from it on is smaller, the place is its own
pub place_there : (xs : List (ℕ × ℕ)) (p i : ℕ) → in_order xs ≡ true → IsBetween p xs i i → 0 < at 0 xs p → IsPlaceOf xs i p
place_there xs p i o h some = elim (cases_lt i (length xs)) [
  | inr over ↦ let none = absent_at xs p i o h (λ l. absurd (omega arith)) in absurd (omega arith)
  | inl l ↦ elim (cases_eq (get_or xs i (0, 0)).0 p) [
    | inl same ↦ record { inside = l; key_is = same }
    | inr other ↦ let none = absent_at xs p i o h (λ _. other) in absurd (omega arith)
  ]
]

-- where a place has a smaller key, all up to it are smaller
pub below_to : (xs : List (ℕ × ℕ)) (key place : ℕ) → in_order xs ≡ true → place < length xs → (get_or xs place (0, 0)).0 < key → AreBelow key xs (place + 1)
below_to xs key place h l less k m = grind (arith, rise xs h k place (0, 0))

-- where a place has another one, none from it on is smaller
pub from_on : (xs : List (ℕ × ℕ)) (key place k : ℕ) → in_order xs ≡ true → key ≤ (get_or xs place (0, 0)).0 → place ≤ k → k < length xs → key ≤ (get_or xs k (0, 0)).0
from_on xs key place k h least le l = grind (arith, rise xs h place k (0, 0))

-- A place up to which all keys are smaller

pub up_to_more : (xs : List (ℕ × ℕ)) (a b place : ℕ) → a ≤ b → IsBetween a xs place place → IsUpTo b xs place
up_to_more xs a b place le h = record { inside = h.inside; below = λ k l. omega (arith, h.below k l) }

-- along other keys in order
pub up_to_next : (xs ys : List (ℕ × ℕ)) (i place : ℕ) → in_order xs ≡ true → i + 1 < length xs → IsBetween (get_or xs i (0, 0)).0 ys place place → IsUpTo (get_or xs (i + 1) (0, 0)).0 ys place
up_to_next xs ys i place o l h = up_to_more ys (get_or xs i (0, 0)).0 (get_or xs (i + 1) (0, 0)).0 place (omega (arith, rise xs o i (i + 1) (0, 0) (omega arith) l)) h

-- A table, from a place on

pub order_from : (xs : List (ℕ × ℕ)) (i : ℕ) → in_order xs ≡ true → in_order (drop i xs) ≡ true
order_from xs zero h = h
order_from [] (suc i) h = refl
order_from (x ∷ xs) (suc i) h = order_from xs i (and_parts (keys_pass (λ k. ltb x.0 k) xs) (in_order xs) h).1

-- behind a place all are greater
above_next : (xs : List (ℕ × ℕ)) (i : ℕ) (d : ℕ × ℕ) → in_order xs ≡ true → i < length xs → keys_pass (λ k. ltb (get_or xs i d).0 k) (drop (i + 1) xs) ≡ true
above_next xs i d h l =
    let order = subst (λ zs. in_order zs ≡ true) (drop_next xs i d l) (order_from xs i h) in
    (and_parts (keys_pass (λ k. ltb (get_or xs i d).0 k) (drop (i + 1) xs)) (in_order (drop (i + 1) xs)) order).0

-- where a place has no greater number, nothing before it counts
at_from : (xs : List (ℕ × ℕ)) (i q : ℕ) (d : ℕ × ℕ) → in_order xs ≡ true → i < length xs → (get_or xs i d).0 ≤ q → at 0 (drop i xs) q ≡ at 0 xs q
at_from xs zero q d h l le = refl
at_from [] (suc i) q d h l le = absurd (omega arith)
at_from (x ∷ xs) (suc i) q d h l le = grind (arith, nat_tests, first_below x.0 xs i d, at_from xs i q d)

pub found_there : (xs : List (ℕ × ℕ)) (p i : ℕ) (d : ℕ × ℕ) → in_order xs ≡ true → i < length xs → (get_or xs i d).0 ≡ p → (get_or xs i d).1 ≡ at 0 xs p
found_there xs p i d h l s = grind (arith, nat_tests, at_from xs i p d h l, drop_next xs i d l)

-- What comes next of two tables that are gone along together

-- where the next one is greater than a number all are
above_from : (n : ℕ) (xs : List (ℕ × ℕ)) (i : ℕ) (d : ℕ × ℕ) → in_order xs ≡ true → (i < length xs → n < (get_or xs i d).0) → keys_pass (λ k. ltb n k) (drop i xs) ≡ true
above_from n xs i d h f = elim (cases_lt i (length xs)) [
  | inl more ↦
      let less = f more in
      let next = above_next xs i d h more in
      grind (arith, nat_tests, drop_next xs i d more, above_all n (get_or xs i d).0 (drop (i + 1) xs))
  | inr over ↦ rw (drop_all i xs over) refl
]

module _ {C : Type 0} (alone : ℕ → C) (both : ℕ → C → C) (other : ℕ → C) (xs ys : List (ℕ × ℕ)) (i j : ℕ) (d e : ℕ × ℕ) (h : in_order xs ≡ true) (g : in_order ys ≡ true) where
  pub next_left : i < length xs → (j < length ys → (get_or xs i d).0 < (get_or ys j e).0)
      → merge alone both other (drop i xs) (drop j ys) ≡ ((get_or xs i d).0, alone (get_or xs i d).1) ∷ merge alone both other (drop (i + 1) xs) (drop j ys)
  next_left l f =
      ap (λ zs. merge alone both other zs (drop j ys)) (drop_next xs i d l)
      ∙ merge_left alone both other (get_or xs i d) (drop (i + 1) xs) (drop j ys) (above_next xs i d h l) (above_from (get_or xs i d).0 ys j e g f)

  pub next_right : j < length ys → (i < length xs → (get_or ys j e).0 < (get_or xs i d).0)
      → merge alone both other (drop i xs) (drop j ys) ≡ ((get_or ys j e).0, other (get_or ys j e).1) ∷ merge alone both other (drop i xs) (drop (j + 1) ys)
  next_right l f =
      ap (λ zs. merge alone both other (drop i xs) zs) (drop_next ys j e l)
      ∙ merge_right alone both other (drop i xs) (get_or ys j e) (drop (j + 1) ys) (above_from (get_or ys j e).0 xs i d h f)

  pub next_both : i < length xs → j < length ys → (get_or xs i d).0 ≡ (get_or ys j e).0
      → merge alone both other (drop i xs) (drop j ys) ≡ ((get_or xs i d).0, both (get_or xs i d).1 (other (get_or ys j e).1)) ∷ merge alone both other (drop (i + 1) xs) (drop (j + 1) ys)
  next_both l m same =
      (λ k. merge alone both other (drop_next xs i d l k) (drop_next ys j e m k))
      ∙ merge_both alone both other (get_or xs i d) (drop (i + 1) xs) (get_or ys j e) (drop (j + 1) ys) same (above_next xs i d h l)
