-- The log's index by picture: the part of one picture, and the sort that makes the index.
use Rattle.std.proofs.Common.{◌≡◌, ℕ, ◌+◌, ◌-◌, ◌<◌, ◌≤◌, Bool, true, false, cond, ◌==◌, ◌&&◌, ◌||◌, List, length, take, drop, get_or, refl, sym, ap, ◌∙◌, inl, inr, arith, length-drop, length-take-le}
use Rattle.std.specs.Prelude.{filter, nat_lt}
use Rattle.std.specs.List.{list_any}
use Rattle.std.specs.List.Sorted.{IsPermutation, IsNonDecreasingBy, IsSortedBy, IsSortedByKey}
use Rattle.std.specs.declared.cmp.Ordering.{Ordering}
use Rattle.std.specs.declared.cmp.Ordering.TheVariants.{Less, Equal, Greater}
use Rattle.std.specs.Ordering.{is_lt, nat_cmp, ordering_then}
use Rattle.std.proofs.lemmas.Bool.{cases_lt, lt-ltb, or_left, false≢true}
use Rattle.std.proofs.lemmas.List.{get_or-take, get_or-drop}
use Rattle.std.proofs.lemmas.List.Sorted.{list_any-IsPermutation, IsNonDecreasingBy-from_all_adjacent}
use Rattle.photo_version.specs.Version.{Version}
use Rattle.photo_device.specs.declared.held.Held.{Held}
use Rattle.photo_device.specs.Held.{held_before}
use Rattle.photo_pull.proofs.Members.{any_filter}

-- the index's part of a picture passes the same tests as the log's versions of it
pub of_index : (p : ℕ) (log index part : List Held) → IsPermutation log index → part ≡ filter (λ h. h.picture == p) index
    → (test : Held → Bool) → list_any test part ≡ list_any (λ h. (h.picture == p) && test h) log
of_index p log index part moved is test =
    ap (list_any test) is
    ∙ any_filter test (λ h. h.picture == p) index
    ∙ sym (list_any-IsPermutation (λ h. (h.picture == p) && test h) log index moved)

-- a sort by picture and version makes the order of held versions

then_less : (less same : Bool) (rest : Ordering) → is_lt (ordering_then (cond less Less (cond same Equal Greater)) rest) ≡ (less || (same && is_lt rest))
then_less true same rest = refl
then_less false true rest = refl
then_less false false rest = refl

last_less : (less same : Bool) → is_lt (cond less Less (cond same Equal Greater)) ≡ less
last_less true same = refl
last_less false true = refl
last_less false false = refl

abbrev key_cmp : ℕ × Version → ℕ × Version → Ordering
key_cmp x y = ordering_then (nat_cmp x.0 y.0) (ordering_then (nat_cmp x.1.author.word y.1.author.word) (nat_cmp x.1.number y.1.number))

less_is_before : (x y : Held) → is_lt (key_cmp (x.picture, x.version) (y.picture, y.version)) ≡ held_before x y
less_is_before x y =
    let v = x.version in
    let w = y.version in
    then_less (nat_lt x.picture y.picture) (x.picture == y.picture) (ordering_then (nat_cmp v.author.word w.author.word) (nat_cmp v.number w.number))
    ∙ ap (λ b. nat_lt x.picture y.picture || ((x.picture == y.picture) && b))
    (then_less (nat_lt v.author.word w.author.word) (v.author.word == w.author.word) (nat_cmp v.number w.number)
    ∙ ap (λ b. nat_lt v.author.word w.author.word || ((v.author.word == w.author.word) && b)) (last_less (nat_lt v.number w.number) (v.number == w.number)))

pub sorted_in_order : (xs : List Held) → IsSortedByKey (λ h. (h.picture, h.version)) key_cmp xs → IsSortedBy held_before xs
sorted_in_order xs sorted k d l h = sym (less_is_before (get_or xs (k + 1) d) (get_or xs k d)) ∙ sorted k d l h

-- in that order the pictures don't decrease
pub rising : (xs : List Held) → IsSortedBy held_before xs → IsNonDecreasingBy (λ h. h.picture) xs
rising xs sorted = IsNonDecreasingBy-from_all_adjacent (λ h. h.picture) xs (λ k d l.
    elim (cases_lt (get_or xs (k + 1) d).picture (get_or xs k d).picture) [
      | inl falls ↦ absurd (false≢true (sym (sorted k d (omega arith) l) ∙ or_left _ _ (lt-ltb _ _ falls)))
      | inr rises ↦ rises
    ])

-- a part of a sorted list is sorted
pub part_in_order : (xs : List Held) (from count : ℕ) → from + count ≤ length xs → IsSortedBy held_before xs → IsSortedBy held_before (take count (drop from xs))
part_in_order xs from count within sorted k d l h =
    let rest : length (drop from xs) ≡ length xs - from = length-drop from xs in
    let long : length (take count (drop from xs)) ≡ count = length-take-le count (drop from xs) (omega (arith, rest, within)) in
    let short : k + 1 < count = omega (arith, h, long) in
    let next : from + (k + 1) ≡ from + k + 1 = omega arith in
    let here : get_or (take count (drop from xs)) k d ≡ get_or xs (from + k) d = get_or-take count (drop from xs) k d (omega (arith, short)) ∙ get_or-drop from xs k d in
    let there : get_or (take count (drop from xs)) (k + 1) d ≡ get_or xs (from + k + 1) d = get_or-take count (drop from xs) (k + 1) d short ∙ get_or-drop from xs (k + 1) d ∙ ap (λ n. get_or xs n d) next in
    (λ i. held_before (there i) (here i)) ∙ sorted (from + k) d (omega arith) (omega (arith, short, within))
