-- Tests of held versions in order, from a place on, and what a test finds of a list.
use Rattle.std.proofs.Common.{◌≡◌, ℕ, zero, suc, ◌+◌, ltb, ◌<◌, ◌≤◌, Bool, true, false, ◌||◌, List, [], ◌∷◌, ◌++◌, append-nil, length, get_or, drop, refl, sym, ap, ◌∙◌, arith}
use Rattle.std.specs.Prelude.{filter}
use Rattle.std.specs.List.{list_any}
use Rattle.std.proofs.lemmas.Bool.Decides.{nat_tests}
use Rattle.std.proofs.lemmas.List.{length-drop, get_or-drop}
use Rattle.std.proofs.lemmas.List.Elements.{All-from_get_or}
use Rattle.std.proofs.lemmas.List.Folds.{list_any_none}
use Rattle.photo_device.specs.declared.held.Held.{Held}
use Rattle.photo_device.specs.Held.{are_in_order}
use Rattle.photo_device.proofs.Order.{rises, in_order-filter}
use Rattle.photo_device.proofs.Putting.{any_counted}
use Rattle.photo_device.specs.declared.change.Selection.{Selection}
use Rattle.photo_device.specs.Device.{Kept}
use Rattle.photo_pull.specs.OnHeld.{has_above, has_below, is_gone, selection_above}

-- what stands before a place is passed, where none of it passes a test
pub none_before : (f : Held → Bool) (xs : List Held) (k : ℕ) → ((i : ℕ) (d : Held) → i < k → f (get_or xs i d) ≡ false) → filter f (drop k xs) ≡ filter f xs
none_before f xs zero none = refl
none_before f [] (suc k) none = refl
none_before f (x ∷ xs) (suc k) none = rw (none 0 x (omega arith)) (none_before f xs k (λ i d l. none (suc i) d (omega arith)))

pub behind : (f : Held → Bool) (xs : List Held) (k : ℕ) → ((i : ℕ) (d : Held) → i < k → f (get_or xs i d) ≡ false) → list_any f (drop k xs) ≡ list_any f xs
behind f xs k none = any_counted f (drop k xs) ∙ ap (λ l. ltb 0 (length l)) (none_before f xs k none) ∙ sym (any_counted f xs)

-- from a place on none passes, where no version of its picture or a greater one does
none_from : (f : Held → Bool) (xs : List Held) (k : ℕ) (w : Held) → are_in_order xs ≡ true → k < length xs → w ≡ get_or xs k w → ((x : Held) → w.picture ≤ x.picture → f x ≡ false) → list_any f (drop k xs) ≡ false
none_from f xs k w order within is none = list_any_none f (drop k xs) (All-from_get_or (λ x. f x ≡ false) (drop k xs) w (λ i l.
    let rise = rises xs order k (k + i) w (omega arith) (omega (arith, length-drop k xs)) in
    let first = ap (λ (x : Held). x.picture) is in
    rw (get_or-drop k xs i w) (none (get_or xs (k + i) w) (omega arith))))

-- nothing from a greater picture on

pub above_none : (xs : List Held) (k : ℕ) (w h : Held) → are_in_order xs ≡ true → k < length xs → w ≡ get_or xs k w → h.picture < w.picture → has_above (drop k xs) h ≡ false
above_none xs k w h order within is greater = none_from _ xs k w order within is (λ x le. grind (arith, nat_tests))

pub below_none : (xs : List Held) (k : ℕ) (w h : Held) → are_in_order xs ≡ true → k < length xs → w ≡ get_or xs k w → h.picture < w.picture → has_below (drop k xs) h ≡ false
below_none xs k w h order within is greater = none_from _ xs k w order within is (λ x le. grind (arith, nat_tests))

-- a selection of no version supersedes nothing

nil : (hs : List Held) → length hs ≡ 0 → hs ≡ []
nil [] none = refl
nil (h ∷ hs) none = absurd (omega (arith, none))

pub none_gone : (news : Selection) (d : Kept) (hs : List Held) → length news.stored.items ≡ 0 → length news.waiting.items ≡ 0 → filter (is_gone news false d) hs ≡ []
none_gone news d [] s w = refl
none_gone news d (h ∷ hs) s w =
    let none : selection_above news h ≡ false = λ i. has_above (nil news.stored.items s i) h || has_above (nil news.waiting.items w i) h in
    rw none (none_gone news d hs s w)

-- what passes a test of a list in order is in order
pub filtered_in_order : (q : Held → Bool) (xs ys : List Held) → ys ++ [] ≡ filter q xs → are_in_order xs ≡ true → are_in_order ys ≡ true
filtered_in_order q xs ys is order = ap are_in_order (sym (append-nil ys) ∙ is) ∙ in_order-filter q xs order
