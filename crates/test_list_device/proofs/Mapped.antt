-- Lists mapped to what their elements stand for.
use Rattle.std.proofs.Common.{◌≡◌, ℕ, suc, ◌+◌, ◌≤◌, Bool, true, false, not, cond, ltb, ◌||◌, List, [], ◌∷◌, ◌++◌, length, refl, ap, ◌∙◌, arith}
use Rattle.std.specs.Prelude.{map, filter, unwrap_or, Some, None}
use Rattle.std.specs.List.{list_any, prefix_len, position, position_or_len, insert}
use Rattle.std.proofs.lemmas.Bool.Decides.{nat_tests}
use Rattle.std.proofs.lemmas.List.Folds.{list_any-append}
use Rattle.photo_model.specs.Ordered.{put}

module _ {A B : Type 0} (f : A → B) where
  pub map-filter : (q : B → Bool) (xs : List A) → map f (filter (λ x. q (f x)) xs) ≡ filter q (map f xs)
  map-filter q [] = refl
  map-filter q (x ∷ xs) = let rest = map-filter q xs in grind (arith, nat_tests)

  -- an element behind all elements that sort before it is at its place
  pub map-insert : (before : B → B → Bool) (x : A) (xs : List A) → map f (insert xs (prefix_len (λ y. before (f y) (f x)) xs) x) ≡ put before (f x) (map f xs)
  map-insert before x [] = refl
  map-insert before x (y ∷ ys) =
      elim (before (f y) (f x)) as (λ b. map f (insert (y ∷ ys) (cond b (1 + prefix_len (λ z. before (f z) (f x)) ys) 0) x) ≡ cond b (f y ∷ put before (f x) (map f ys)) (f x ∷ f y ∷ map f ys)) [
        | true ↦ (let next : 1 + prefix_len (λ z. before (f z) (f x)) ys ≡ suc (prefix_len (λ z. before (f z) (f x)) ys) = omega arith in rw next (ap (λ l. f y ∷ l) (map-insert before x ys)))
        | false ↦ refl
      ]

  -- the same, at an index given by an equation
  pub put_at : (before : B → B → Bool) (x : A) (xs ys : List A) (place : ℕ) → place ≡ prefix_len (λ y. before (f y) (f x)) xs → ys ≡ insert xs place x → map f ys ≡ put before (f x) (map f xs)
  put_at before x xs ys place is ys_is = ap (map f) (ys_is ∙ ap (λ n. insert xs n x) is) ∙ map-insert before x xs

  pub list_any-map : (q : B → Bool) (xs : List A) → list_any q (map f xs) ≡ list_any (λ x. q (f x)) xs
  list_any-map q [] = refl
  list_any-map q (x ∷ xs) = ap (λ b. q (f x) || b) (list_any-map q xs)

-- a test of two lists, one appended to the other
pub any_of_both : {A : Type 0} (q : A → Bool) (xs ys : List A) → list_any q (xs ++ ys) ≡ (list_any q xs || list_any q ys)
any_of_both q xs ys = list_any-append q xs ys

prefix-within : {A : Type 0} (p : A → Bool) (xs : List A) → prefix_len p xs ≤ length xs
prefix-within p [] = omega arith
prefix-within p (x ∷ xs) = let rest = prefix-within p xs in grind (arith, nat_tests)

-- the index that a search gives, or the end
pub placed : {A : Type 0} (p : A → Bool) (xs : List A) (n : ℕ) → n ≡ unwrap_or (position (λ x. not (p x)) xs) (length xs) → n ≡ prefix_len p xs
placed p xs n n_is =
    let same : position_or_len (λ x. not (p x)) xs ≡ prefix_len p xs = λ i. prefix_len (λ x. twice (p x) i) xs in
    n_is ∙ ap (λ m. unwrap_or (cond (ltb m (length xs)) (Some m) None) (length xs)) same ∙ by (prefix_len p xs) (length xs) (prefix-within p xs)
  where
    twice : (b : Bool) → not (not b) ≡ b
    twice true = refl
    twice false = refl

    by : (m l : ℕ) → m ≤ l → unwrap_or (cond (ltb m l) (Some m) None) l ≡ m
    by m l h = grind (arith, nat_tests)
