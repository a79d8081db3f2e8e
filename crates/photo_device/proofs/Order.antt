-- Held versions in order: how they stand to one another, what is put among them, and what a search by a test of the code
-- finds there.
use Rattle.std.proofs.Common.{◌≡◌, ℕ, ◌<◌, ◌≤◌, Bool, true, false, not, eqb, leb, ltb, ◌&&◌, ◌||◌, List, [], ◌∷◌, ◌++◌, length, length-append, get_or, Bor, refl, sym, ap, ◌∙◌, inl, inr, arith}
use Rattle.std.specs.Prelude.{filter, Option, is_some, Result, Ok, Err, OnErr}
use Rattle.std.specs.List.{find, list_any}
use Rattle.std.specs.Cmp.{IsStrictWeakOrder}
use Rattle.std.specs.Fn.{Mut, Called, ComputesKey}
use Rattle.std.specs.List.Sorted.{IsNonDecreasingBy, IsPartitionedBy}
use Rattle.std.proofs.lemmas.Bool.{cases_lt}
use Rattle.std.proofs.lemmas.Bool.Decides.{nat_tests}
use Rattle.std.proofs.lemmas.Fn.{always_returns_same}
use Rattle.std.proofs.lemmas.List.MinMax.{IsStrictWeakOrder-by_number}
use Rattle.block_list.specs.Blocks.{IsReplaced}
use Rattle.photo_record.specs.declared.record.Record.TheVariants.{Removed}
use Rattle.photo_version.specs.Author.{author}
use Rattle.photo_version.specs.Version.{Version, version, version_before, same_version}
use Rattle.photo_device.specs.declared.held.Held.{Held}
use Rattle.photo_model.specs.Ordered.{put}
use Rattle.photo_model.specs.Entry.{is_of_other}
use Rattle.photo_device.specs.Held.{entry_of, held_before, stands_before, is_of, are_in_order, replaced, count_of}
use Rattle.photo_device.proofs.Putting as putting
use Rattle.photo_device.proofs.Putting.{IsSearch, TurnsAt}

-- where one that is left passes a test, one of all does
pub one_passes : {T E : Type 0} (r : Result T E) (f : Held → Bool) (xs found left rest : List Held) (y : Held) → found ++ filter f left ≡ filter f xs → left ≡ y ∷ rest → f y ≡ true → OnErr r (list_any f xs ≡ true)
one_passes (Ok x) f xs found left rest y so_far next passes = tt
one_passes (Err e) f xs found left rest y so_far next passes =
    let some : length (filter f left) ≡ length (y ∷ filter f rest) = ap (λ l. length (filter f l)) next ∙ rw passes refl in
    let all = ap length so_far in
    let counted = putting.any_counted f xs in
    grind (arith, nat_tests, length-append)

-- by a number, and by a second test where the numbers are the same
by_number : {X : Type 0} (key : X → ℕ) (rest : X → X → Bool) → IsStrictWeakOrder rest → IsStrictWeakOrder (λ x y. ltb (key x) (key y) || (eqb (key x) (key y) && rest x y))
by_number key rest order = record {
  one_way = λ x y h. (let o = order.one_way x y in grind (arith, nat_tests));
  chain = λ x y z h g. (let o = order.chain x y z in grind (arith, nat_tests));
}

pub version_order : IsStrictWeakOrder version_before
version_order = by_number (λ (v : Version). v.author.word) (λ v w. ltb v.number w.number) (IsStrictWeakOrder-by_number (λ (v : Version). v.number))

pub held_order : IsStrictWeakOrder held_before
held_order = by_number (λ (h : Held). h.picture) (λ a b. version_before a.version b.version)
    (record { one_way = λ a b. version_order.one_way a.version b.version; chain = λ a b c. version_order.chain a.version b.version c.version })

-- held versions that are not the same stand one before the other
pub held_apart : (a b : Held) → same_version a.version b.version ≡ false → (held_before a b || held_before b a) ≡ true
held_apart a b other = grind (arith, nat_tests)

-- along a list in order the picture numbers don't fall
pub rises : (xs : List Held) → are_in_order xs ≡ true → IsNonDecreasingBy (λ h. h.picture) xs
rises xs o i j d le l = elim (cases_lt i j) [
  | inl before ↦ let up = putting.in_order_at held_before xs o i j d before l in grind (arith, nat_tests)
  | inr last ↦ let same : i ≡ j = omega arith in rw same (omega arith)
]

-- A list in three parts, as callers above state it: smaller pictures up to `from`, the picture itself up to `to`, and greater ones

pub record Parts (p : ℕ) (xs : List Held) (from to : ℕ) : Type 0 where
  pub below : (k : ℕ) (d : Held) → k < from → (get_or xs k d).picture < p
  pub here : (k : ℕ) (d : Held) → from ≤ k → k < to → (get_or xs k d).picture ≡ p
  pub above : (k : ℕ) (d : Held) → to ≤ k → k < length xs → p < (get_or xs k d).picture

-- The order is kept

pub in_order-filter : (r : Held → Bool) (xs : List Held) → are_in_order xs ≡ true → are_in_order (filter r xs) ≡ true
in_order-filter r [] o = refl
in_order-filter r (x ∷ xs) o = let rest = in_order-filter r xs in let all = putting.list_all-filter (held_before x) r xs in grind arith

pub in_order-replaced : (h : Held) (xs : List Held) → are_in_order xs ≡ true → are_in_order (replaced h xs) ≡ true
in_order-replaced h xs o =
    putting.in_order-put held_order h _ (in_order-filter _ xs o)
    (putting.list_all_wider (λ x. is_of_other h.picture (entry_of x)) (λ x. held_before h x || held_before x h) (λ x other. grind (arith, nat_tests)) _ (putting.list_all_filtered (λ x. is_of_other h.picture (entry_of x)) xs))

-- a version that isn't there stands before or behind each
pub in_order-inserted : (h : Held) (xs : List Held) → are_in_order xs ≡ true → count_of h.version xs ≡ 0 → are_in_order (put held_before h xs) ≡ true
in_order-inserted h xs o absent =
    let test = λ (x : Held). same_version x.version h.version in
    let out = putting.none_out test xs (putting.any_counted test xs ∙ grind (arith, nat_tests)) in
    let none = rw out at (putting.list_all_filtered (λ x. not (test x)) xs) in
    putting.in_order-put held_order h xs o
    (putting.list_all_wider (λ x. not (test x)) (λ x. held_before h x || held_before x h) (λ x other. grind (arith, nat_tests)) xs none)

-- What the code's searches ask: where a picture's versions begin and end, and where a version of a picture stands

pub for_picture : (p : ℕ) → IsSearch held_before (λ h. ltb h.picture p) (λ h. eqb h.picture p)
for_picture p = record { down = λ x y b t. grind (arith, nat_tests); apart = λ x t. grind (arith, nat_tests); alone = λ x y b t q. grind (arith, nat_tests) }

pub for_version : (p : ℕ) (v : Version) → IsSearch held_before (λ h. stands_before h p v) (λ h. is_of h p v)
for_version p v = record { down = λ x y b t. grind (arith, nat_tests); apart = λ x t. grind (arith, nat_tests); alone = λ x y b t q. grind (arith, nat_tests) }

-- a version of a picture of which nothing else counts
abbrev pub one_of_picture : ℕ → Held
one_of_picture p = record { picture = p; version = version (author 0) 1; made_with = []; content = Removed }

-- where a picture's versions stand, by the turns of two tests
pub range_cut : (h : Held) (xs : List Held) (from to : ℕ) → from ≤ length xs → to ≤ length xs → TurnsAt (λ x. ltb x.picture h.picture) xs from → TurnsAt (λ x. leb x.picture h.picture) xs to
    → putting.IsCut held_before (λ x. is_of_other h.picture (entry_of x)) h xs from to
range_cut h =
    putting.cut held_before (λ x. ltb x.picture h.picture) (λ x. leb x.picture h.picture) (λ x. is_of_other h.picture (entry_of x)) h
    (λ y t. (grind (arith, nat_tests), grind (arith, nat_tests))) (λ y t. (grind (arith, nat_tests), grind (arith, nat_tests))) (λ y t u. grind (arith, nat_tests))

-- What calls with a test of the code tell

module _ (xs : List Held) (ordered : are_in_order xs ≡ true) {F : Type 0} {f : Mut F (Bor Held × Unit {0}) Bool} {before : F} where
  pub found_by_search : (t q : Held → Bool) (found : Option Held) → IsSearch held_before t q → ((p : Held → Bool) → ComputesKey f p before → IsPartitionedBy p xs → found ≡ find (λ h. not (p h)) xs)
      → ((a : Bor Held × Unit {0}) (r : Bool) (f' : F) → Called f before a r f' → (r ≡ t a.0.now) × (f' ≡ before))
      → putting.passing q found ≡ find q xs
  found_by_search t q found search clause calls =
      ap (putting.passing q) (clause t (always_returns_same f (λ a r. r ≡ t a.0.now) before calls) (putting.turning held_before t search.down xs ordered))
      ∙ putting.found_first held_before t q search xs ordered

  pub told_by_search : (t q : Held → Bool) (found : Option Held) → IsSearch held_before t q → ((p : Held → Bool) → ComputesKey f p before → IsPartitionedBy p xs → found ≡ find (λ h. not (p h)) xs)
      → ((a : Bor Held × Unit {0}) (r : Bool) (f' : F) → Called f before a r f' → (r ≡ t a.0.now) × (f' ≡ before))
      → is_some (putting.passing q found) ≡ list_any q xs
  told_by_search t q found search clause calls = ap is_some (found_by_search t q found search clause calls) ∙ putting.any_found q xs

  pub inserted_by_test : (h : Held) (new : List Held) → ((t : Held → Bool) → ComputesKey f t before → IsPartitionedBy t xs → IsReplaced t t xs h new)
      → ((a : Bor Held × Unit {0}) (r : Bool) (f' : F) → Called f before a r f' → (r ≡ stands_before a.0.now h.picture h.version) × (f' ≡ before))
      → new ≡ put held_before h xs
  inserted_by_test h new clause less =
      let test = λ (x : Held). held_before x h in
      let r = clause test (always_returns_same f (λ a r. r ≡ test a.0.now) before less) (putting.turning held_before test (for_version h.picture h.version).down xs ordered) in
      let order = r.between.order in
      let within = r.between.within in
      let at = putting.cut held_before test test (λ _. true) h (λ y t. (refl, t)) (λ y t. (refl, t)) (λ y t u. grind arith) xs r.from r.to (omega arith) within r.between.first r.between.last in
      r.list ∙ sym at.place ∙ ap (put held_before h) (putting.filter_true xs)

  pub replaced_by_tests : (h : Held) (new : List Held) → {G : Type 0} {g : Mut G (Bor Held × Unit {0}) Bool} {through : G}
      → ((t u : Held → Bool) → ComputesKey f t before → ComputesKey g u through → IsPartitionedBy t xs → IsPartitionedBy u xs → ((y : Held) → t y ≡ true → u y ≡ true) → IsReplaced t u xs h new)
      → ((a : Bor Held × Unit {0}) (r : Bool) (f' : F) → Called f before a r f' → (r ≡ ltb a.0.now.picture h.picture) × (f' ≡ before))
      → ((a : Bor Held × Unit {0}) (r : Bool) (g' : G) → Called g through a r g' → (r ≡ leb a.0.now.picture h.picture) × (g' ≡ through))
      → new ≡ replaced h xs
  replaced_by_tests h new {g = g} {through = through} clause less most =
      let r = clause (λ x. ltb x.picture h.picture) (λ x. leb x.picture h.picture)
      (always_returns_same f (λ a r. r ≡ ltb a.0.now.picture h.picture) before less)
      (always_returns_same g (λ a r. r ≡ leb a.0.now.picture h.picture) through most)
      (putting.turning held_before _ (for_picture h.picture).down xs ordered)
      (putting.turning held_before (λ x. leb x.picture h.picture) (λ x y b t. grind (arith, nat_tests)) xs ordered)
      (λ y l. grind (arith, nat_tests)) in
      let order = r.between.order in
      let within = r.between.within in
      r.list ∙ sym (range_cut h xs r.from r.to (omega arith) within r.between.first r.between.last).place
