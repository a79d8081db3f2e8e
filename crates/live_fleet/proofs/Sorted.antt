-- A sort by picture and version gives the order of held versions.
use Rattle.std.proofs.Common.{◌≡◌, ℕ, ◌+◌, Bool, true, false, cond, ◌==◌, ◌&&◌, ◌||◌, List, get_or, refl, sym, ap, ◌∙◌}
use Rattle.std.specs.Prelude.{nat_lt}
use Rattle.std.specs.List.Sorted.{IsSortedBy, IsSortedByKey}
use Rattle.std.specs.declared.cmp.Ordering.{Ordering}
use Rattle.std.specs.declared.cmp.Ordering.TheVariants.{Less, Equal, Greater}
use Rattle.std.specs.Ordering.{is_lt, nat_cmp, ordering_then}
use Rattle.photo_version.specs.Version.{Version}
use Rattle.photo_device.specs.declared.held.Held.{Held}
use Rattle.photo_device.specs.Held.{held_before}

then_less : (less same : Bool) (rest : Ordering) → is_lt (ordering_then (cond less Less (cond same Equal Greater)) rest) ≡ (less || (same && is_lt rest))
then_less true same rest = refl
then_less false true rest = refl
then_less false false rest = refl

last_less : (less same : Bool) → is_lt (cond less Less (cond same Equal Greater)) ≡ less
last_less true same = refl
last_less false true = refl
last_less false false = refl

abbrev key_cmp : ℕ × Version → ℕ × Version → Ordering
key_cmp x y = ordering_then (nat_cmp x.0 y.0) (ordering_then (nat_cmp x.1.author.word y.1.author.word) (nat_cmp x.1.number y.1.number))

less_is_before : (x y : Held) → is_lt (key_cmp (x.picture, x.version) (y.picture, y.version)) ≡ held_before x y
less_is_before x y =
    let v = x.version in
    let w = y.version in
    then_less (nat_lt x.picture y.picture) (x.picture == y.picture) (ordering_then (nat_cmp v.author.word w.author.word) (nat_cmp v.number w.number))
    ∙ ap (λ b. nat_lt x.picture y.picture || ((x.picture == y.picture) && b))
    (then_less (nat_lt v.author.word w.author.word) (v.author.word == w.author.word) (nat_cmp v.number w.number)
    ∙ ap (λ b. nat_lt v.author.word w.author.word || ((v.author.word == w.author.word) && b)) (last_less (nat_lt v.number w.number) (v.number == w.number)))

pub sorted_in_order : (xs : List Held) → IsSortedByKey (λ h. (h.picture, h.version)) key_cmp xs → IsSortedBy held_before xs
sorted_in_order xs sorted k d l h = sym (less_is_before (get_or xs (k + 1) d) (get_or xs k d)) ∙ sorted k d l h
