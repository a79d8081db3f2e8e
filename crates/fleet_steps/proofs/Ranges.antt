-- The versions of a picture in a sorted list.
use Rattle.std.proofs.Common.{◌≡◌, ℕ, zero, suc, ◌+◌, ◌-◌, ◌≤◌, Bool, true, false, eqb, ltb, leb, List, [], ◌∷◌, length, take, drop, refl, ap, ◌∙◌, inl, inr, arith}
use Rattle.std.specs.Prelude.{filter}
use Rattle.std.specs.List.Sorted.{IsPartitionPoint}
use Rattle.std.proofs.lemmas.Bool.{eq-eqb, ne_eqb, ltb-true, ltb-false, leb-true, leb-false, cases_lt}
use Rattle.photo_device.specs.declared.held.Held.{Held}
use Rattle.photo_device.proofs.Order.{Parts}

abbrev pub is_of : ℕ → Held → Bool
is_of p h = eqb h.picture p

-- the parts of the list behind its first item
tail : (p : ℕ) (x : Held) (xs : List Held) (from to f t : ℕ) → f ≡ from - 1 → t ≡ to - 1 → Parts p (x ∷ xs) from to → Parts p xs f t
tail p x xs from to f t from_is to_is parts = record {
  below = λ k d h. parts.below (suc k) d (omega arith);
  here = λ k d h g. parts.here (suc k) d (omega arith) (omega arith);
  above = λ k d h g. parts.above (suc k) d (omega arith) (omega arith);
}

apart : (p : ℕ) (x : Held) (xs : List Held) → (x.picture ≡ p → ⊥) → filter (is_of p) (x ∷ xs) ≡ filter (is_of p) xs
apart p x xs h = rw (ne_eqb x.picture p h) refl

range_is : (p : ℕ) (xs : List Held) (from n : ℕ) → from + n ≤ length xs → Parts p xs from (from + n) → filter (is_of p) xs ≡ take n (drop from xs)
range_is p [] zero zero w parts = refl
range_is p [] zero (suc n) w parts = absurd (omega arith)
range_is p [] (suc from) n w parts = absurd (omega arith)
range_is p (x ∷ xs) zero zero w parts =
    let above = parts.above 0 x (omega arith) (omega arith) in
    apart p x xs (λ e. absurd (omega arith)) ∙ range_is p xs 0 0 (omega arith) (tail p x xs 0 (0 + 0) 0 (0 + 0) (omega arith) (omega arith) parts)
range_is p (x ∷ xs) zero (suc n) w parts =
    rw (eq-eqb x.picture p (parts.here 0 x (omega arith) (omega arith))) (ap (λ l. x ∷ l) (range_is p xs 0 n (omega arith) (tail p x xs 0 (0 + suc n) 0 (0 + n) (omega arith) (omega arith) parts)))
range_is p (x ∷ xs) (suc from) n w parts =
    let below = parts.below 0 x (omega arith) in
    apart p x xs (λ e. absurd (omega arith)) ∙ range_is p xs from n (omega arith) (tail p x xs (suc from) (suc from + n) from (from + n) (omega arith) (omega arith) parts)

module _ (p : ℕ) (xs : List Held) (from to : ℕ) (f : from ≤ length xs) (t : to ≤ length xs) (less : IsPartitionPoint (λ (h : Held). ltb h.picture p ≡ true) (λ (h : Held). ltb h.picture p ≡ false) xs from) (most : IsPartitionPoint (λ (h : Held). leb h.picture p ≡ true) (λ (h : Held). leb h.picture p ≡ false) xs to) where
  pub no_turn : from ≤ to
  no_turn = elim (cases_lt to from) [
    | inl back ↦ elim xs as (λ l. l ≡ xs → from ≤ to) [
      | [] ↦ λ e. let none = ap length e in absurd (omega arith)
      | x ∷ more ↦ λ e.
          let low = ltb-true _ _ (less.0 to x (omega arith) back) in
          let high = leb-false _ _ (most.1 to x (omega arith) (omega arith)) in
          absurd (omega arith)
    ] refl
    | inr o ↦ o
  ]

  pub of_range : filter (is_of p) xs ≡ take (to - from) (drop from xs)
  of_range = let order = no_turn in range_is p xs from (to - from) (omega arith) (record {
    below = λ k d h. ltb-true _ _ (less.0 k d (omega arith) h);
    here = λ k d h g.
        let low = ltb-false _ _ (less.1 k d h (omega arith)) in
        let high = leb-true _ _ (most.0 k d (omega arith) (omega arith)) in
        omega arith;
    above = λ k d h g. leb-false _ _ (most.1 k d (omega arith) g);
  })
