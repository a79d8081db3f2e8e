-- How often versions are held.
use Rattle.std.proofs.Common.{◌≡◌, ℕ, ◌+◌, ◌≤◌, Bool, true, cond, List, [], ◌∷◌, ◌++◌, length, refl, ap, ◌∙◌, length-append, arith}
use Rattle.std.specs.Prelude.{filter, None}
use Rattle.std.proofs.lemmas.Bool.Decides.{nat_tests}
use Rattle.std.proofs.lemmas.List.Elements.{filter-append}
use Rattle.photo_version.specs.Version.{Version, same_version}
use Rattle.photo_device.specs.declared.held.Held.{Held}
use Rattle.photo_model.specs.Ordered.{put}
use Rattle.photo_device.specs.Held.{held_before, count_of, find_version}

pub same_version_is : (v w : Version) → same_version v w ≡ true → v ≡ w
same_version_is v w h = grind (arith, nat_tests)

pub same_version_self : (v : Version) → same_version v v ≡ true
same_version_self v = grind (arith, nat_tests)

abbrev pub one_of : Version → Held → ℕ
one_of v h = cond (same_version h.version v) 1 0

pub count_of-cons : (v : Version) (h : Held) (xs : List Held) → count_of v (h ∷ xs) ≡ one_of v h + count_of v xs
count_of-cons v h xs = grind (arith, nat_tests)

pub count_of-append : (v : Version) (xs ys : List Held) → count_of v (xs ++ ys) ≡ count_of v xs + count_of v ys
count_of-append v xs ys =
    ap length (filter-append (λ (h : Held). same_version h.version v) xs ys) ∙ length-append _ _

pub count_of-put : (v : Version) (h : Held) (xs : List Held) → count_of v (put held_before h xs) ≡ count_of v (h ∷ xs)
count_of-put v h [] = refl
count_of-put v h (x ∷ xs) = let rest = count_of-put v h xs in grind (arith, nat_tests)

pub count_of-filter : (v : Version) (q : Held → Bool) (xs : List Held) → count_of v (filter q xs) ≤ count_of v xs
count_of-filter v q [] = omega arith
count_of-filter v q (x ∷ xs) = let rest = count_of-filter v q xs in grind (arith, nat_tests)

-- what isn't found doesn't count
pub none_counted : (v : Version) (xs : List Held) → find_version v xs ≡ None → count_of v xs ≡ 0
none_counted v [] none = refl
none_counted v (x ∷ xs) none = let rest = none_counted v xs in grind (arith, nat_tests)
