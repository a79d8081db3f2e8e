-- Lists by their places.
use Rattle.std.proofs.Common.{◌≡◌, ℕ, zero, suc, ◌+◌, ◌<◌, Bool, true, List, [], ◌∷◌, ◌++◌, length, get_or, drop, add-one, drop-cons, sym, subst, inl, inr, arith, length-append}
use Rattle.std.proofs.Math.ListN.{get_or-append}
use Rattle.std.proofs.Math.Seq.{get_or-append_seam}
use Rattle.std.specs.List.{list_all}
use Rattle.std.proofs.lemmas.Bool.{and_parts, cases_lt}

pub drop_next : {X : Type 0} (xs : List X) (i : ℕ) (d : X) → i < length xs → drop i xs ≡ get_or xs i d ∷ drop (i + 1) xs
drop_next xs i d l = rw add-one (drop-cons xs i d l)

pub all_at : {X : Type 0} (t : X → Bool) (xs : List X) (i : ℕ) (d : X) → list_all t xs ≡ true → i < length xs → t (get_or xs i d) ≡ true
all_at t [] i d h l = absurd (omega arith)
all_at t (x ∷ xs) zero d h l = (and_parts (t x) (list_all t xs) h).0
all_at t (x ∷ xs) (suc i) d h l = all_at t xs i d (and_parts (t x) (list_all t xs) h).1 (omega arith)

-- what holds of each of a list and of one more holds of each behind which that one stands
pub snoc_each : {X : Type 0} (P : ℕ → X → Type 0) (xs : List X) (x d : X) → ((k : ℕ) → k < length xs → P k (get_or xs k d)) → P (length xs) x → (k : ℕ) → k < length (xs ++ x ∷ []) → P k (get_or (xs ++ x ∷ []) k d)
snoc_each P xs x d each last k l = elim (cases_lt k (length xs)) [
  | inl less ↦ subst (P k) (sym (get_or-append xs (x ∷ []) d k less)) (each k less)
  | inr over ↦
      let many = length-append xs (x ∷ []) in
      let end : length xs ≡ k = omega (arith, many, l, over) in
      subst (λ j. P j (get_or (xs ++ x ∷ []) j d)) end (subst (P (length xs)) (sym (get_or-append_seam xs x [] d)) last)
]
