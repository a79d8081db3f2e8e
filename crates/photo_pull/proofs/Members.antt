-- Elements of lists, and filters and tests of lists element by element.
use Rattle.std.proofs.Common.{◌≡◌, ◌≤◌, Bool, true, false, not, ◌&&◌, ◌||◌, List, [], ◌∷◌, ◌++◌, length, map, Some, refl, sym, ap, ◌∙◌, subst, inl, inr, ◌⊎◌, arith}
use Rattle.std.specs.Prelude.{filter}
use Rattle.std.specs.List.{list_any, find, AllByRecursion}
use Rattle.std.proofs.lemmas.Bool.{cases_Bool, or_right}
use Rattle.std.proofs.lemmas.List.{nil_from_length}

module _ {X : Type 0} where
  abbrev pub In : X → List X → Type 0
  In x [] = ⊥
  In x (y ∷ ys) = (x ≡ y) ⊎ In x ys

  pub in_left : (x : X) (xs ys : List X) → In x xs → In x (xs ++ ys)
  in_left x [] ys h = absurd h
  in_left x (y ∷ more) ys h = elim h [ inl e ↦ inl e | inr there ↦ inr (in_left x more ys there) ]

  pub in_right : (x : X) (xs ys : List X) → In x ys → In x (xs ++ ys)
  in_right x [] ys h = h
  in_right x (y ∷ more) ys h = inr (in_right x more ys h)

  pub in_filter : (p : X → Bool) (x : X) (xs : List X) → In x xs → p x ≡ true → In x (filter p xs)
  in_filter p x [] h passes = absurd h
  in_filter p x (y ∷ ys) (inl e) passes = rw (sym (ap p e) ∙ passes) (inl e)
  in_filter p x (y ∷ ys) (inr there) passes = let rest = in_filter p x ys there passes in elim (cases_Bool (p y)) [ inl is ↦ rw is (inr rest) | inr other ↦ rw other rest ]

  pub in_filtered : (p : X → Bool) (x : X) (xs : List X) → In x (filter p xs) → In x xs × (p x ≡ true)
  in_filtered p x [] h = absurd h
  in_filtered p x (y ∷ ys) h = elim (cases_Bool (p y)) [
    | inl here ↦ elim (rw here at h) [ inl e ↦ (inl e, ap p e ∙ here) | inr there ↦ let rest = in_filtered p x ys there in (inr rest.0, rest.1) ]
    | inr apart ↦ let rest = in_filtered p x ys (rw apart at h) in (inr rest.0, rest.1)
  ]

  pub in_any : (f : X → Bool) (x : X) (xs : List X) → In x xs → f x ≡ true → list_any f xs ≡ true
  in_any f x [] h passes = absurd h
  in_any f x (y ∷ ys) (inl e) passes = rw (sym (ap f e) ∙ passes) refl
  in_any f x (y ∷ ys) (inr there) passes = or_right (f y) (list_any f ys) (in_any f x ys there passes)

  pub none_in : (f : X → Bool) (xs : List X) → ((x : X) → In x xs → f x ≡ false) → list_any f xs ≡ false
  none_in f [] none = refl
  none_in f (x ∷ xs) none = λ i. none x (inl refl) i || none_in f xs (λ y h. none y (inr h)) i

  -- what holds of each

  pub all_at : (P : X → Type 0) (x : X) (xs : List X) → AllByRecursion P xs → In x xs → P x
  all_at P x [] all h = absurd h
  all_at P x (y ∷ ys) all h = elim h [ inl e ↦ subst P (sym e) all.0 | inr there ↦ all_at P x ys all.1 there ]

  pub all_of : (P : X → Type 0) (xs : List X) → ((x : X) → In x xs → P x) → AllByRecursion P xs
  all_of P [] f = tt
  all_of P (x ∷ xs) f = (f x (inl refl), all_of P xs (λ y h. f y (inr h)))

  -- tests that agree on each element of a list

  pub any_same : (f g : X → Bool) (xs : List X) → ((x : X) → In x xs → f x ≡ g x) → list_any f xs ≡ list_any g xs
  any_same f g [] same = refl
  any_same f g (x ∷ xs) same = λ i. same x (inl refl) i || any_same f g xs (λ y h. same y (inr h)) i

  pub filter_alike : (f g : X → Bool) (xs : List X) → ((x : X) → In x xs → f x ≡ g x) → filter f xs ≡ filter g xs
  filter_alike f g [] same = refl
  filter_alike f g (x ∷ xs) same = rw (same x (inl refl), filter_alike f g xs (λ y h. same y (inr h))) refl

  pub any_filter : (f q : X → Bool) (xs : List X) → list_any f (filter q xs) ≡ list_any (λ x. q x && f x) xs
  any_filter f q [] = refl
  any_filter f q (x ∷ xs) = grind (arith, any_filter f q xs)

  pub any_swap : (f q : X → Bool) (xs : List X) → list_any f (filter q xs) ≡ list_any q (filter f xs)
  any_swap f q [] = refl
  any_swap f q (x ∷ xs) = grind (arith, any_swap f q xs)

  pub filter_filter : (f q : X → Bool) (xs : List X) → filter f (filter q xs) ≡ filter (λ x. q x && f x) xs
  filter_filter f q [] = refl
  filter_filter f q (x ∷ xs) = grind (arith, filter_filter f q xs)

  -- what a filter keeps and what it leaves out
  pub any_parts : (f q : X → Bool) (xs : List X) → (list_any f (filter q xs) || list_any f (filter (λ x. not (q x)) xs)) ≡ list_any f xs
  any_parts f q [] = refl
  any_parts f q (x ∷ xs) = grind (arith, any_parts f q xs)

  -- a filter that keeps all that pass a test
  pub any_kept : (f q : X → Bool) (xs : List X) → ((x : X) → In x xs → f x ≡ true → q x ≡ true) → list_any f (filter q xs) ≡ list_any f xs
  any_kept f q xs kept = any_filter f q xs ∙ any_same (λ x. q x && f x) f xs (λ x here. let keeps = kept x here in grind arith)

  -- lists in which one element at most passes a test

  pub only_one : (p : X → Bool) (x : X) (xs : List X) → In x xs → p x ≡ true → length (filter p xs) ≤ 1 → filter p xs ≡ x ∷ []
  only_one p x [] h passes few = absurd h
  only_one p x (y ∷ ys) (inl e) passes few =
      let here : p y ≡ true = sym (ap p e) ∙ passes in
      rw (here, nil_from_length (filter p ys) (let counted = rw here at few in omega arith)) (ap (λ z. z ∷ []) (sym e))
  only_one p x (y ∷ ys) (inr there) passes few = grind (arith, only_one p x ys there passes)

  pub find_one : (p : X → Bool) (x : X) (xs : List X) → filter p xs ≡ x ∷ [] → find p xs ≡ Some x
  find_one p x [] e = cc
  find_one p x (y ∷ ys) e = grind (arith, find_one p x ys)

module _ {X Y : Type 0} where
  pub any_map : (f : Y → Bool) (g : X → Y) (xs : List X) → list_any f (map g xs) ≡ list_any (λ x. f (g x)) xs
  any_map f g [] = refl
  any_map f g (x ∷ xs) = ap (λ r. f (g x) || r) (any_map f g xs)
