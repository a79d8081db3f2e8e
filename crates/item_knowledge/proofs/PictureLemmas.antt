-- Lists of pictures in order.
use Rattle.std.proofs.Common.{◌≡◌, ℕ, ◌+◌, ◌≤◌, Bool, true, false, ltb, eqb, List, [], ◌∷◌, length, refl, arith}
use Rattle.std.specs.List.{list_all}
use Rattle.std.proofs.lemmas.Bool.{true≢false}
use Rattle.std.proofs.lemmas.Bool.Decides.{nat_tests}
use Rattle.item_knowledge.specs.Fragments.{is_empty, first, lists, rises}

pub lists_head : (p : ℕ) (ps : List ℕ) → lists (p ∷ ps) p ≡ true
lists_head p ps = grind (arith, nat_tests)

-- what holds of all holds of each that is listed
pub listed : (test : ℕ → Bool) (ps : List ℕ) (p : ℕ) → list_all test ps ≡ true → lists ps p ≡ true → test p ≡ true
listed test [] p h l = absurd (grind (arith, nat_tests))
listed test (q ∷ ps) p h l = grind (arith, nat_tests, listed test ps p)

pub first_listed : (ps : List ℕ) → is_empty ps ≡ false → lists ps (first ps) ≡ true
first_listed [] h = absurd (true≢false h)
first_listed (p ∷ ps) h = lists_head p ps

pub first_least : (ps : List ℕ) (p : ℕ) → rises ps ≡ true → lists ps p ≡ true → first ps ≤ p
first_least [] p r l = omega arith
first_least (q ∷ ps) p r l = grind (arith, nat_tests, listed (λ x. ltb q x) ps p)

-- lists in order with the same members are one
pub same_pictures : (xs ys : List ℕ) → rises xs ≡ true → rises ys ≡ true → ((p : ℕ) → lists xs p ≡ lists ys p) → xs ≡ ys
same_pictures [] [] rx ry h = refl
same_pictures [] (y ∷ ys) rx ry h = absurd (grind (arith, nat_tests, h y))
same_pictures (x ∷ xs) [] rx ry h = absurd (grind (arith, nat_tests, h x))
same_pictures (x ∷ xs) (y ∷ ys) rx ry h =
    let same : x ≡ y = grind (arith, nat_tests, h x, h y, listed (λ z. ltb x z) xs y, listed (λ z. ltb y z) ys x) in
    let tails : (p : ℕ) → lists xs p ≡ lists ys p = λ p. grind (arith, nat_tests, h p, listed (λ z. ltb x z) xs p, listed (λ z. ltb y z) ys p) in
    λ i. same i ∷ same_pictures xs ys (grind (arith, nat_tests)) (grind (arith, nat_tests)) tails i

-- a number that is above all listed ones
abbrev pub beyond : List ℕ → ℕ
beyond [] = 0
beyond (p ∷ ps) = p + (beyond ps + 1)

pub beyond_none : (ps : List ℕ) (p : ℕ) → beyond ps ≤ p → lists ps p ≡ false
beyond_none [] p h = refl
beyond_none (q ∷ ps) p h = grind (arith, nat_tests, beyond_none ps p)

pub empty_length : (ps : List ℕ) → eqb (length ps) 0 ≡ is_empty ps
empty_length [] = refl
empty_length (p ∷ ps) = grind (arith, nat_tests)
