-- Pairs of alternatives, one after another.
use Rattle.std.proofs.Common.{◌≡◌, ◌∙◌, sym, ap, ℕ, suc, ◌+◌, ◌<◌, ◌≤◌, true, List, [], ◌∷◌, ◌++◌, length, length-append, get_or, drop, drop-cons, map, append_assoc, append-nil, arith}
use Rattle.std.proofs.lemmas.Bool.{lt-ltb, ltb-true}
use Rattle.std.proofs.lemmas.List.{drop_all}
use Rattle.std.proofs.lemmas.List.Elements.{filter-append}
use Rattle.photo_filter_rules.specs.Alternatives.{Alternative, both_of, is_possible, possible, pairs, is_long}

-- the element at a place, and the elements after it
rest_at : (xs : List Alternative) (i : ℕ) (x : Alternative) → i < length xs → x ≡ get_or xs i x → drop i xs ≡ x ∷ drop (suc i) xs
rest_at xs i x inside at = drop-cons xs i x inside ∙ ap (λ y. y ∷ drop (suc i) xs) (sym at)

-- a list is too long if a first part of it is
long_front : (front more whole : List Alternative) → whole ≡ front ++ more → is_long front ≡ true → is_long whole ≡ true
long_front front more whole is long =
    let size : length whole ≡ length front + length more = ap length is ∙ length-append front more in
    let front_long = ltb-true _ _ long in
    lt-ltb _ _ (omega arith)

-- one alternative paired with a list

pair_split : (f : Alternative → Alternative) (before now others : List Alternative) (i : ℕ) (x : Alternative) → now ++ possible (map f (drop i others)) ≡ before → i < length others → x ≡ get_or others i x → before ≡ (now ++ possible (f x ∷ [])) ++ possible (map f (drop (suc i) others))
pair_split f before now others i x is inside at =
    sym is
    ∙ ap (λ l. now ++ possible (map f l)) (rest_at others i x inside at)
    ∙ ap (λ l. now ++ l) (filter-append is_possible (f x ∷ []) (map f (drop (suc i) others)))
    ∙ sym (append_assoc now (possible (f x ∷ [])) (possible (map f (drop (suc i) others))))

pub pair_more : (f : Alternative → Alternative) (before now next others : List Alternative) (i : ℕ) (x : Alternative) → now ++ possible (map f (drop i others)) ≡ before → i < length others → x ≡ get_or others i x → next ≡ now ++ possible (f x ∷ []) → next ++ possible (map f (drop (i + 1) others)) ≡ before
pair_more f before now next others i x is inside at grown =
    let next_place : i + 1 ≡ suc i = omega arith in
    rw (next_place, grown) (sym (pair_split f before now others i x is inside at))

pub pair_long : (f : Alternative → Alternative) (before now others : List Alternative) (i : ℕ) (x : Alternative) → now ++ possible (map f (drop i others)) ≡ before → i < length others → x ≡ get_or others i x → is_long (now ++ possible (f x ∷ [])) ≡ true → is_long before ≡ true
pair_long f before now others i x is inside at long = long_front _ _ before (pair_split f before now others i x is inside at) long

pub pair_end : (f : Alternative → Alternative) (before now others : List Alternative) (i : ℕ) → now ++ possible (map f (drop i others)) ≡ before → length others ≤ i → now ≡ before
pair_end f before now others i is past =
    sym (append-nil now) ∙ sym (ap (λ l. now ++ possible (map f l)) (drop_all i others past)) ∙ is

-- one list paired with another

row_split : (before now left right : List Alternative) (i : ℕ) (x : Alternative) → now ++ pairs (drop i left) right ≡ before → i < length left → x ≡ get_or left i x → before ≡ (now ++ possible (map (both_of x) right)) ++ pairs (drop (suc i) left) right
row_split before now left right i x is inside at =
    sym is
    ∙ ap (λ l. now ++ pairs l right) (rest_at left i x inside at)
    ∙ sym (append_assoc now (possible (map (both_of x) right)) (pairs (drop (suc i) left) right))

pub row_more : (before now next left right : List Alternative) (i : ℕ) (x : Alternative) → now ++ pairs (drop i left) right ≡ before → i < length left → x ≡ get_or left i x → next ≡ now ++ possible (map (both_of x) right) → next ++ pairs (drop (i + 1) left) right ≡ before
row_more before now next left right i x is inside at grown =
    let next_place : i + 1 ≡ suc i = omega arith in
    rw (next_place, grown) (sym (row_split before now left right i x is inside at))

pub row_long : (before now left right : List Alternative) (i : ℕ) (x : Alternative) → now ++ pairs (drop i left) right ≡ before → i < length left → x ≡ get_or left i x → is_long (now ++ possible (map (both_of x) right)) ≡ true → is_long before ≡ true
row_long before now left right i x is inside at long = long_front _ _ before (row_split before now left right i x is inside at) long

pub row_end : (before now left right : List Alternative) (i : ℕ) → now ++ pairs (drop i left) right ≡ before → length left ≤ i → now ≡ before
row_end before now left right i is past =
    sym (append-nil now) ∙ sym (ap (λ l. now ++ pairs l right) (drop_all i left past)) ∙ is
