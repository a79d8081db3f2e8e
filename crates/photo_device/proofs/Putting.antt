-- Lists in the order of a test: what is put into them, and what a filter leaves of them.
use Rattle.std.proofs.Common.{◌≡◌, ℕ, zero, suc, ◌+◌, ◌<◌, ◌≤◌, Bool, true, false, not, cond, ltb, ◌&&◌, ◌||◌, List, [], ◌∷◌, ◌++◌, length, get_or, slice_get, take, drop, Bor, refl, sym, ap, ◌∙◌, inl, inr, arith}
use Rattle.std.proofs.lemmas.List.Elements.{filter_agree}
use Rattle.std.proofs.Math.Bool.{and_comm}
use Rattle.std.specs.Prelude.{map, filter, Option, Some, None, is_some}
use Rattle.std.specs.List.{list_all, list_any, find}
use Rattle.std.specs.Option.{option_copied}
use Rattle.std.specs.List.Sorted.{IsPartitionedBy, IsPartitionPoint}
use Rattle.std.specs.Cmp.{IsStrictWeakOrder}
use Rattle.std.proofs.lemmas.Bool.{and_parts, and_from, cases_lt, false≢true}
use Rattle.std.proofs.lemmas.Bool.Decides.{nat_tests}
use Rattle.std.proofs.lemmas.Map.Keys.{any_passes_from_place}
use Rattle.std.proofs.lemmas.Option.{same_Some, none-some}
use Rattle.photo_model.specs.Ordered.{put, in_order}

-- where a test turns
abbrev pub TurnsAt : {A : Type 0} → (A → Bool) → List A → ℕ → Type 0
TurnsAt q xs n = IsPartitionPoint (λ y. q y ≡ true) (λ y. q y ≡ false) xs n

module _ {A : Type 0} where
  pub any_found : (q : A → Bool) (xs : List A) → is_some (find q xs) ≡ list_any q xs
  any_found q [] = refl
  any_found q (x ∷ xs) = let rest = any_found q xs in grind (arith, nat_tests)

  -- what a search gives is there where one passes
  pub found_any : (q : A → Bool) (xs : List A) (found : Option (Bor A)) → option_copied found ≡ find q xs → is_some found ≡ list_any q xs
  found_any q xs None is = ap is_some is ∙ any_found q xs
  found_any q xs (Some x) is = ap is_some is ∙ any_found q xs

  pub any_counted : (q : A → Bool) (xs : List A) → list_any q xs ≡ ltb 0 (length (filter q xs))
  any_counted q [] = refl
  any_counted q (x ∷ xs) = let rest = any_counted q xs in grind (arith, nat_tests)

  pub any_wider : (q r : A → Bool) → ((x : A) → q x ≡ true → r x ≡ true) → (xs : List A) → list_any q xs ≡ true → list_any r xs ≡ true
  any_wider q r wider [] h = h
  any_wider q r wider (x ∷ xs) h = let here = wider x in let rest = any_wider q r wider xs in grind arith

  pub none_out : (q : A → Bool) (xs : List A) → list_any q xs ≡ false → filter (λ x. not (q x)) xs ≡ xs
  none_out q [] none = refl
  none_out q (x ∷ xs) none = let rest = none_out q xs in grind (arith, nat_tests)

  -- the only one that passes is the one that is found, and without it the others are left
  pub only_one : (q : A → Bool) (xs : List A) (i : ℕ) (x : A) → length (filter q xs) ≤ 1 → slice_get xs i ≡ Some x → q x ≡ true → (Some x ≡ find q xs) × (take i xs ++ drop (i + 1) xs ≡ filter (λ y. not (q y)) xs)
  only_one q [] i x once at passes = absurd (none-some x at)
  only_one q (y ∷ ys) zero x once at passes =
      let is : q y ≡ true = ap q (same_Some y x at) ∙ passes in
      let counted = rw is at once in
      let none : list_any q ys ≡ false = any_counted q ys ∙ grind (arith, nat_tests) in
      (rw is (sym at), rw is (sym (none_out q ys none)))
  only_one q (y ∷ ys) (suc i) x once at passes =
      let rest = only_one q ys i x in
      let some = any_passes_from_place q ys i x at passes in
      let next : suc i + 1 ≡ suc (i + 1) = omega arith in
      grind (arith, nat_tests, any_counted)

  pub list_all-filter : (q r : A → Bool) (xs : List A) → list_all q xs ≡ true → list_all q (filter r xs) ≡ true
  list_all-filter q r [] h = refl
  list_all-filter q r (x ∷ xs) h = let rest = list_all-filter q r xs in grind arith

  pub list_all_filtered : (q : A → Bool) (xs : List A) → list_all q (filter q xs) ≡ true
  list_all_filtered q [] = refl
  list_all_filtered q (x ∷ xs) = let rest = list_all_filtered q xs in grind arith

  -- what one test tells of each, another may too
  pub list_all_wider : (q r : A → Bool) → ((x : A) → q x ≡ true → r x ≡ true) → (xs : List A) → list_all q xs ≡ true → list_all r xs ≡ true
  list_all_wider q r wider [] h = refl
  list_all_wider q r wider (x ∷ xs) h = and_from _ _ (wider x (and_parts _ _ h).0) (list_all_wider q r wider xs (and_parts _ _ h).1)

  pub filter_true : (xs : List A) → filter (λ _. true) xs ≡ xs
  filter_true [] = refl
  filter_true (x ∷ xs) = ap (λ l. x ∷ l) (filter_true xs)

  pub filter_all : (q : A → Bool) (xs : List A) → list_all q xs ≡ true → filter q xs ≡ xs
  filter_all q [] h = refl
  filter_all q (x ∷ xs) h = let rest = filter_all q xs in grind arith

  turns_next : (q : A → Bool) (ys : List A) (y : A) → TurnsAt q (y ∷ ys) zero → TurnsAt q ys zero
  turns_next q ys y t = (λ j d z u. absurd (omega arith), λ j d u v. t.1 (suc j) d (omega arith) (omega arith))

  turns_later : (q : A → Bool) (ys : List A) (y : A) (n : ℕ) → TurnsAt q (y ∷ ys) (suc n) → TurnsAt q ys n
  turns_later q ys y n t = (λ j d z u. t.0 (suc j) d (omega arith) (omega arith), λ j d u v. t.1 (suc j) d (omega arith) (omega arith))

  -- elements that pass p stand in front, those that fail q at the back, and those between don't pass keep: x comes between
  pub record IsCut (before : A → A → Bool) (keep : A → Bool) (x : A) (xs : List A) (from to : ℕ) : Type 0 where
    pub order : from ≤ to
    pub rest : filter keep xs ≡ take from xs ++ drop to xs
    pub place : put before x (filter keep xs) ≡ take from xs ++ x ∷ drop to xs

  pub cut : (before : A → A → Bool) (p q keep : A → Bool) (x : A) → ((y : A) → p y ≡ true → (keep y ≡ true) × (before y x ≡ true)) → ((y : A) → q y ≡ false → (keep y ≡ true) × (before y x ≡ false))
      → ((y : A) → p y ≡ false → q y ≡ true → keep y ≡ false) → (xs : List A) (from to : ℕ) → from ≤ length xs → to ≤ length xs → TurnsAt p xs from → TurnsAt q xs to → IsCut before keep x xs from to
  cut before p q keep x front back gone [] from to l m first last = (let f : from ≡ zero = omega arith in let t : to ≡ zero = omega arith in rw (f, t) (record { order = omega arith; rest = refl; place = refl }))
  cut before p q keep x front back gone (y ∷ ys) (suc from) zero l m first last = absurd (false≢true (sym (back y (last.1 0 y (omega arith) (omega arith))).1 ∙ (front y (first.0 0 y (omega arith) (omega arith))).1))
  cut before p q keep x front back gone (y ∷ ys) zero zero l m first last =
      let here = back y (last.1 0 y (omega arith) (omega arith)) in
      let rest = cut before p q keep x front back gone ys zero zero (omega arith) (omega arith) (turns_next p ys y first) (turns_next q ys y last) in
      record { order = omega arith; rest = rw here.0 (ap (λ l. y ∷ l) rest.rest); place = rw here.0 (rw here.1 (ap (λ l. x ∷ y ∷ l) rest.rest)) }
  cut before p q keep x front back gone (y ∷ ys) zero (suc to) l m first last =
      let here = gone y (first.1 0 y (omega arith) (omega arith)) (last.0 0 y (omega arith) (omega arith)) in
      let rest = cut before p q keep x front back gone ys zero to (omega arith) (omega arith) (turns_next p ys y first) (turns_later q ys y to last) in
      record { order = omega arith; rest = rw here rest.rest; place = rw here rest.place }
  cut before p q keep x front back gone (y ∷ ys) (suc from) (suc to) l m first last =
      let here = front y (first.0 0 y (omega arith) (omega arith)) in
      let rest = cut before p q keep x front back gone ys from to (omega arith) (omega arith) (turns_later p ys y from first) (turns_later q ys y to last) in
      record { order = (let o = rest.order in omega arith); rest = rw here.0 (ap (λ l. y ∷ l) rest.rest); place = rw here.0 (rw here.1 (ap (λ l. y ∷ l) rest.place)) }

  list_all-put : (before : A → A → Bool) (q : A → Bool) (x : A) (xs : List A) → q x ≡ true → list_all q xs ≡ true → list_all q (put before x xs) ≡ true
  list_all-put before q x [] p a = grind arith
  list_all-put before q x (y ∷ ys) p a = let rest = list_all-put before q x ys in grind arith

  pub list_all_get : (q : A → Bool) (xs : List A) → list_all q xs ≡ true → (j : ℕ) (d : A) → j < length xs → q (get_or xs j d) ≡ true
  list_all_get q [] a j d l = absurd (omega arith)
  list_all_get q (x ∷ xs) a zero d l = (and_parts _ _ a).0
  list_all_get q (x ∷ xs) a (suc j) d l = list_all_get q xs (and_parts _ _ a).1 j d (omega arith)

  -- one stands before a later one
  pub in_order_at : (before : A → A → Bool) (xs : List A) → in_order before xs ≡ true → (i j : ℕ) (d : A) → i < j → j < length xs → before (get_or xs i d) (get_or xs j d) ≡ true
  in_order_at before [] o i j d u l = absurd (omega arith)
  in_order_at before (x ∷ xs) o i zero d u l = absurd (omega arith)
  in_order_at before (x ∷ xs) o zero (suc j) d u l = list_all_get (before x) xs (and_parts _ _ o).0 j d (omega arith)
  in_order_at before (x ∷ xs) o (suc i) (suc j) d u l = in_order_at before xs (and_parts _ _ o).1 i j d (omega arith) (omega arith)

  -- a search in a list in order: those that pass t stand in front, and the first behind them is the only one that may pass q
  pub record IsSearch (before : A → A → Bool) (t q : A → Bool) : Type 0 where
    pub down : (x y : A) → before x y ≡ true → t y ≡ true → t x ≡ true
    pub apart : (x : A) → t x ≡ true → q x ≡ false
    pub alone : (x y : A) → before x y ≡ true → t x ≡ false → q x ≡ false → q y ≡ false

  pub turning : (before : A → A → Bool) (t : A → Bool) → ((x y : A) → before x y ≡ true → t y ≡ true → t x ≡ true) → (xs : List A) → in_order before xs ≡ true → IsPartitionedBy t xs
  turning before t down xs o i j d le l h = elim (cases_lt i j) [
    | inl less ↦ down _ _ (in_order_at before xs o i j d less l) h
    | inr same ↦ let at : i ≡ j = omega arith in rw at h
  ]

  abbrev pub passing : (A → Bool) → Option A → Option A
  passing q None = None
  passing q (Some x) = cond (q x) (Some x) None

  pub told_if : (q : A → Bool) (x : A) → q x ≡ is_some (passing q (Some x))
  told_if q x = grind (arith, nat_tests)

  pub found_first : (before : A → A → Bool) (t q : A → Bool) → IsSearch before t q → (xs : List A) → in_order before xs ≡ true → passing q (find (λ x. not (t x)) xs) ≡ find q xs
  found_first before t q search [] o = refl
  found_first before t q search (x ∷ xs) o =
      let front = search.apart x in
      let rest = found_first before t q search xs in
      let behind = none x in
      grind (arith, nat_tests)
    where
      none : (x : A) → t x ≡ false → q x ≡ false → (ys : List A) → list_all (before x) ys ≡ true → find q ys ≡ None
      none x here other [] later = refl
      none x here other (y ∷ ys) later =
          let next = search.alone x y in
          let rest = none x here other ys in
          grind (arith, nat_tests)

  pub filter-filter : (q r : A → Bool) (xs : List A) → filter q (filter r xs) ≡ filter (λ x. r x && q x) xs
  filter-filter q r [] = refl
  filter-filter q r (x ∷ xs) = let rest = filter-filter q r xs in grind (arith, nat_tests)

  pub filter-swap : (q r : A → Bool) (xs : List A) → filter q (filter r xs) ≡ filter r (filter q xs)
  filter-swap q r xs = filter-filter q r xs ∙ filter_agree _ _ (λ x. and_comm (r x) (q x)) xs ∙ sym (filter-filter r q xs)

  pub map_alike : {B : Type 0} (f g : A → B) (q : A → Bool) → ((x : A) → q x ≡ true → f x ≡ g x) → (xs : List A) → list_all q xs ≡ true → map f xs ≡ map g xs
  map_alike f g q alike [] h = refl
  map_alike f g q alike (x ∷ xs) h = (λ i. alike x (and_parts _ _ h).0 i ∷ map_alike f g q alike xs (and_parts _ _ h).1 i)

  -- where a test turns, those that pass end and the others begin
  pub turned : (q : A → Bool) (xs : List A) (n : ℕ) → n ≤ length xs → TurnsAt q xs n → (filter q xs ≡ take n xs) × (filter (λ y. not (q y)) xs ≡ drop n xs)
  turned q [] n l point = (let none : n ≡ zero = omega arith in rw none (refl, refl))
  turned q (x ∷ xs) zero l point =
      let fails = point.1 0 x in
      let rest = turned q xs zero (omega arith) (turns_next q xs x point) in
      grind arith
  turned q (x ∷ xs) (suc n) l point =
      let passes = point.0 0 x in
      let rest = turned q xs n (omega arith) (turns_later q xs x n point) in
      grind arith

  module _ {before : A → A → Bool} (order : IsStrictWeakOrder before) where
    -- along the order
    pub follows : (x y z : A) → before x y ≡ true → before y z ≡ true → before x z ≡ true
    follows x y z h g = let back = order.one_way y z g in let chain = order.chain x z y in grind arith

    -- what is put before the first
    pub put_first : (x : A) (xs : List A) → list_all (λ z. not (before z x)) xs ≡ true → put before x xs ≡ x ∷ xs
    put_first x [] h = refl
    put_first x (y ∷ ys) h = grind arith

    -- where each stands before or behind x, the order stays
    pub in_order-put : (x : A) (xs : List A) → in_order before xs ≡ true → list_all (λ y. before x y || before y x) xs ≡ true → in_order before (put before x xs) ≡ true
    in_order-put x [] o e = refl
    in_order-put x (y ∷ ys) o e =
        let rest = in_order-put x ys in
        let less = list_all-put before (before y) x ys in
        let wider = list_all_wider (before y) (before x) in
        let chain = follows x y in
        grind arith

    -- two puts in either order
    swap_less : (x y : A) (zs : List A) → before x y ≡ true → put before x (put before y zs) ≡ put before y (put before x zs)
    swap_less x y [] less = let back = order.one_way x y less in rw (less, back) refl
    swap_less x y (z ∷ zs) less =
        let rest = swap_less x y zs less in
        let back = order.one_way x y less in
        let too = follows z x y in
        grind arith

    pub put-put : (x y : A) (zs : List A) → (before x y || before y x) ≡ true → put before x (put before y zs) ≡ put before y (put before x zs)
    put-put x y zs apart = let less = swap_less x y zs in let more = swap_less y x zs in grind arith
