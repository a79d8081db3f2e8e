-- Tests over lists: of a part and the rest, of a filtered list, in another order, and at the index where a test turns.
use Rattle.std.proofs.Common.{◌≡◌, ℕ, zero, suc, ◌<◌, Bool, true, false, cond, not, ◌==◌, ltb, max, ◌&&◌, ◌||◌, List, [], ◌∷◌, ◌++◌, Bor, length, get_or, take, drop, refl, sym, ap, ap₂, ◌∙◌, inl, inr, arith}
use Rattle.std.specs.Prelude.{filter, is_some, Option, Some, None}
use Rattle.std.specs.Option.{option_copied}
use Rattle.std.specs.List.{list_any, list_all}
use Rattle.std.specs.List.Sorted.{IsPermutation, IsPartitionPoint}
use Rattle.std.proofs.lemmas.Bool.{cases_lt, lt-ltb, le-ltb, cases_Bool, eqb-true}
use Rattle.std.proofs.lemmas.List.{take-append-drop, nil_from_length}
use Rattle.std.proofs.lemmas.List.Folds.{list_all-append}
use Rattle.std.proofs.lemmas.List.Sorted.{list_any-IsPermutation}
use Rattle.photo_version.specs.Version.{Version, same_version}
use Rattle.photo_device.specs.declared.held.Held.{Held}
use Rattle.photo_device.specs.Held.{is_of, find_version, find_version_of, has_version_of}
use Rattle.photo_device.specs.Device.{Kept}
use Rattle.fleet_audit.specs.Audited.{has}

less_suc : (k n : ℕ) → ltb (suc k) (suc n) ≡ ltb k n
less_suc k n = elim (cases_lt k n) [
  | inl less ↦ lt-ltb (suc k) (suc n) (omega arith) ∙ sym (lt-ltb k n less)
  | inr more ↦ le-ltb (suc k) (suc n) (omega arith) ∙ sym (le-ltb k n more)
]

module _ {X : Type 0} where
  all_or_some : (p : X → Bool) (xs : List X) → list_all p xs ≡ not (list_any (λ x. not (p x)) xs)
  all_or_some p [] = refl
  all_or_some p (x ∷ xs) = elim (p x) as (λ b. (b && list_all p xs) ≡ not (not b || list_any (λ y. not (p y)) xs)) [
    | true ↦ all_or_some p xs
    | false ↦ refl
  ]

  -- in another order, all items pass exactly where they did
  pub all_moved : (p : X → Bool) (xs ys : List X) → IsPermutation xs ys → list_all p ys ≡ list_all p xs
  all_moved p xs ys moved = all_or_some p ys ∙ ap not (sym (list_any-IsPermutation (λ x. not (p x)) xs ys moved)) ∙ sym (all_or_some p xs)

  -- the items that a filter leaves pass
  pub all_left : (out q : X → Bool) (xs : List X) → list_all q (filter (λ x. not (out x)) xs) ≡ list_all (λ x. out x || q x) xs
  all_left out q [] = refl
  all_left out q (x ∷ xs) = elim (out x) as (λ b. list_all q (cond (not b) (x ∷ filter (λ y. not (out y)) xs) (filter (λ y. not (out y)) xs)) ≡ ((b || q x) && list_all (λ y. out y || q y) xs)) [
    | true ↦ all_left out q xs
    | false ↦ ap (λ t. q x && t) (all_left out q xs)
  ]

  -- the first n items and the rest
  pub all_parts : (p : X → Bool) (xs front back : List X) (n : ℕ) → front ≡ take n xs → back ≡ drop n xs → list_all p xs ≡ (list_all p front && list_all p back)
  all_parts p xs front back n f b =
      ap (list_all p) (sym (take-append-drop n xs)) ∙ list_all-append p (take n xs) (drop n xs) ∙ ap₂ (λ s t. list_all p s && list_all p t) (sym f) (sym b)

  -- a test that holds for exactly the first n items
  pub turns_at : (p : X → Bool) (xs : List X) (n : ℕ) → IsPartitionPoint (λ y. p y ≡ true) (λ y. p y ≡ false) xs n → (k : ℕ) (d : X) → k < length xs → ltb k n ≡ p (get_or xs k d)
  turns_at p xs n point k d l = elim (cases_lt k n) [
    | inl less ↦ lt-ltb k n less ∙ sym (point.0 k d (omega arith) less)
    | inr more ↦ le-ltb k n more ∙ sym (point.1 k d more l)
  ]

  pub rest_fails : (p : X → Bool) (xs : List X) (n : ℕ) → ((k : ℕ) (d : X) → k < length xs → ltb k n ≡ p (get_or xs k d)) → drop n xs ≡ filter (λ x. not (p x)) xs
  rest_fails p [] zero turns = refl
  rest_fails p [] (suc n) turns = refl
  rest_fails p (x ∷ xs) zero turns =
      let here : p x ≡ false = sym (turns 0 x (omega arith)) ∙ le-ltb 0 0 (omega arith) in
      let rest = rest_fails p xs 0 (λ k d l. le-ltb k 0 (omega arith) ∙ sym (le-ltb (suc k) 0 (omega arith)) ∙ turns (suc k) d (omega arith)) in
      rw here (ap (λ l. x ∷ l) rest)
  rest_fails p (x ∷ xs) (suc n) turns =
      let here : p x ≡ true = sym (turns 0 x (omega arith)) ∙ lt-ltb 0 (suc n) (omega arith) in
      rw here (rest_fails p xs n (λ k d l. sym (less_suc k n) ∙ turns (suc k) d (omega arith)))

-- a list is checked stretch by stretch: in each stretch the items that are not left out have to pass
module _ {X : Type 0} (out q : X → Bool) (log index rest : List X) (moved : IsPermutation log index) (same : list_all (λ x. out x || q x) rest ≡ list_all (λ x. out x || q x) index) where
  module _ (stretch others current : List X) (n : ℕ) (r : Bool) (front : stretch ≡ take n rest) (back : others ≡ drop n rest) (left : current ≡ filter (λ x. not (out x)) stretch) (told : r ≡ list_all q current) where
    here : r ≡ list_all (λ x. out x || q x) stretch
    here = told ∙ ap (list_all q) left ∙ all_left out q stretch

    parts : list_all (λ x. out x || q x) rest ≡ (r && list_all (λ x. out x || q x) others)
    parts = all_parts (λ x. out x || q x) rest stretch others n front back ∙ ap (λ b. b && list_all (λ x. out x || q x) others) (sym here)

    pub stops : r ≡ false → false ≡ list_all (λ x. out x || q x) log
    stops failed = sym (parts ∙ ap (λ b. b && list_all (λ x. out x || q x) others) failed) ∙ same ∙ all_moved (λ x. out x || q x) log index moved

    pub goes_on : r ≡ true → list_all (λ x. out x || q x) others ≡ list_all (λ x. out x || q x) index
    goes_on passed = sym (parts ∙ ap (λ b. b && list_all (λ x. out x || q x) others) passed) ∙ same

  pub ends : (b : Bool) → b ≡ (length rest == 0) → b ≡ true → true ≡ list_all (λ x. out x || q x) log
  ends b is last =
      let none : rest ≡ [] = nil_from_length rest (eqb-true _ _ (sym is ∙ last)) in
      sym (ap (list_all (λ x. out x || q x)) none) ∙ same ∙ all_moved (λ x. out x || q x) log index moved

copied_some : {X : Type 0} (o : Option (Bor X)) → is_some o ≡ is_some (option_copied o)
copied_some None = refl
copied_some (Some x) = refl

pub some_found : {X : Type 0} (o : Option (Bor X)) (found : Option X) → option_copied o ≡ found → is_some o ≡ is_some found
some_found o found is = copied_some o ∙ ap is_some is

pub less_max : (k m n : ℕ) → ltb k (max m n) ≡ (ltb k m || ltb k n)
less_max k m n = elim (cases_lt k m) [
  | inl less ↦ lt-ltb k (max m n) (omega arith) ∙ ap (λ b. b || ltb k n) (sym (lt-ltb k m less))
  | inr more ↦ elim (cases_lt k n) [
    | inl less ↦ lt-ltb k (max m n) (omega arith) ∙ sym (ap₂ (λ a b. a || b) (le-ltb k m more) (lt-ltb k n less))
    | inr most ↦ le-ltb k (max m n) (omega arith) ∙ sym (ap₂ (λ a b. a || b) (le-ltb k m more) (le-ltb k n most))
  ]
]

-- a search by picture finds the version only where a search through everything does
pub has_by_picture : (picture : ℕ) (v : Version) (helds : List Held) → has_version_of picture v helds ≡ true → has helds v ≡ true
has_by_picture picture v [] h = h
has_by_picture picture v (x ∷ xs) h = elim (cases_Bool (same_version x.version v)) [
  | inl same ↦ rw same refl
  | inr other ↦
      let none : is_of x picture v ≡ false = ap (λ b. (x.picture == picture) && b) other ∙ and_false (x.picture == picture) in
      let rest : has xs v ≡ true = has_by_picture picture v xs (sym (ap (λ b. b || has_version_of picture v xs) none) ∙ h) in
      rw other rest
]
  where
    and_false : (b : Bool) → (b && false) ≡ false
    and_false true = refl
    and_false false = refl

pub has_by_version : (v : Version) (helds : List Held) → is_some (find_version v helds) ≡ has helds v
has_by_version v [] = refl
has_by_version v (x ∷ xs) = elim (same_version x.version v) as (λ b. is_some (cond b (Some x) (find_version v xs)) ≡ (b || has xs v)) [
  | true ↦ refl
  | false ↦ has_by_version v xs
]

pub found_by_picture : (picture : ℕ) (v : Version) (helds : List Held) → is_some (find_version_of picture v helds) ≡ has_version_of picture v helds
found_by_picture picture v [] = refl
found_by_picture picture v (x ∷ xs) = elim (is_of x picture v) as (λ b. is_some (cond b (Some x) (find_version_of picture v xs)) ≡ (b || has_version_of picture v xs)) [
  | true ↦ refl
  | false ↦ found_by_picture picture v xs
]

-- if a search by picture finds the version on some device, some device has it
pub found_has : (picture : ℕ) (v : Version) (devices : List Kept) → list_any (λ d. has_version_of picture v (d.store ++ d.out)) devices ≡ true → list_any (λ d. has (d.store ++ d.out) v) devices ≡ true
found_has picture v [] h = h
found_has picture v (d ∷ ds) h = elim (cases_Bool (has_version_of picture v (d.store ++ d.out))) [
  | inl here ↦ rw (has_by_picture picture v (d.store ++ d.out) here) refl
  | inr none ↦
      let rest : list_any (λ x. has (x.store ++ x.out) v) ds ≡ true = found_has picture v ds (sym (ap (λ b. b || list_any (λ x. has_version_of picture v (x.store ++ x.out)) ds) none) ∙ h) in
      ap (λ b. has (d.store ++ d.out) v || b) rest ∙ or_true (has (d.store ++ d.out) v)
]
  where
    or_true : (b : Bool) → (b || true) ≡ true
    or_true true = refl
    or_true false = refl
