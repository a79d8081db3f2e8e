-- What sets of held versions take, give up and hand over.
use Rattle.std.proofs.Common.{◌≡◌, ℕ, ◌+◌, ◌<◌, ◌≤◌, Bool, true, false, not, List, [], ◌∷◌, ◌++◌, length, get_or, drop, refl, sym, ap, ◌∙◌, ◌⊎◌, Bor, inl, inr, arith, ◌&&◌}
use Rattle.std.specs.Prelude.{filter, Option, Some, None, IfSome, IfNone}
use Rattle.std.specs.List.{AllByRecursion, list_any}
use Rattle.std.specs.Fn.{Mut, Called, ComputesKey}
use Rattle.std.proofs.lemmas.Bool.{cases_Bool}
use Rattle.std.proofs.lemmas.Bool.Decides.{nat_tests}
use Rattle.std.proofs.lemmas.Fn.{always_returns_same}
use Rattle.std.proofs.lemmas.List.{drop_all, drop_more}
use Rattle.std.proofs.lemmas.List.Elements.{filter_agree, filter-append}
use Rattle.std.proofs.lemmas.List.Folds.{list_any-append}
use Rattle.block_list.specs.Taken.{IsTakenOut}
use Rattle.block_list.specs.Reservation.{Reserved, Growing}
use Rattle.photo_version.specs.Version.{Version, same_version}
use Rattle.photo_device.specs.declared.held.Held.{Held}
use Rattle.photo_model.specs.Ordered.{put}
use Rattle.photo_device.specs.Held.{held_before, has_version_of, count_of, are_in_order, is_listed, helds_without, put_helds, versions_of}
use Rattle.photo_device.specs.Staging.{AreNoneOf}
use Rattle.photo_device.specs.Taking.{AreNewTo, HasRoomFor, HasTaken, MayTake, with_those}
use Rattle.photo_device.proofs.Counts.{one_of, count_of-cons, count_of-append, count_of-put, count_of-filter, same_version_self}
use Rattle.photo_device.proofs.Order.{held_order, held_apart}
use Rattle.photo_device.proofs.Putting.{any_counted, any_wider, filter_true, none_out, only_one, filter-filter, filter-swap, put-put}

-- What is taken

pub count_of-put_helds : (v : Version) (takes helds : List Held) → count_of v (put_helds takes helds) ≡ count_of v takes + count_of v helds
count_of-put_helds v [] helds = omega arith
count_of-put_helds v (h ∷ takes) helds =
    count_of-put v h (put_helds takes helds) ∙ omega (arith, count_of-put_helds v takes helds, count_of-cons)

-- one that comes to a set isn't there
pub is_new : (h : Held) (helds : List Held) → AreNewTo helds (h ∷ []) → count_of h.version helds ≡ 0
is_new h helds new = let once = new.once h.version in grind (arith, same_version_self, count_of-cons)

put_helds-append : (xs ys zs : List Held) → put_helds (xs ++ ys) zs ≡ put_helds xs (put_helds ys zs)
put_helds-append [] ys zs = refl
put_helds-append (x ∷ xs) ys zs = ap (put held_before x) (put_helds-append xs ys zs)

-- one more before all others, or after them
put_through : (h : Held) (takes helds : List Held) → count_of h.version takes ≡ 0 → put_helds takes (put held_before h helds) ≡ put held_before h (put_helds takes helds)
put_through h [] helds none = refl
put_through h (g ∷ takes) helds none =
    let rest = put_through h takes helds in
    let all = count_of-cons h.version g takes in
    let apart = held_apart g h in
    let swap = put-put held_order g h (put_helds takes helds) in
    grind (arith, nat_tests)

-- what comes in two parts

pub new_first : (xs ys helds : List Held) → AreNewTo helds (xs ++ ys) → AreNewTo helds xs
new_first xs ys helds new = record { once = λ v. omega (arith, new.once v, count_of-append) }

pub new_then : (q : Held → Bool) (xs ys helds : List Held) → AreNewTo helds (xs ++ ys) → AreNewTo (with_those q xs helds) ys
new_then q xs ys helds new = record { once = λ v. omega (arith, new.once v, count_of-append, count_of-put_helds, count_of-filter) }

-- a set with room that takes versions: those that are left, and what it has now
pub record IsTaking (q : Held → Bool) (coming : List Held) (before : Growing Held) (left : List Held) (now : Growing Held) : Type 0 where
  pub order : are_in_order now.items ≡ true
  pub done : with_those q left now.items ≡ with_those q coming before.items
  pub new : AreNewTo now.items left
  pub room : length left ≤ now.more
  pub used : before.more + length left ≤ now.more + length coming

pub none_taken : (q : Held → Bool) (coming : List Held) (before : Growing Held) → HasRoomFor coming before → IsTaking q coming before coming before
none_taken q coming before has = record { order = has.order; done = refl; new = has.new; room = has.room; used = omega arith }

pub has_room : (q : Held → Bool) (coming : List Held) (before : Growing Held) (h : Held) (left : List Held) (now : Growing Held) → IsTaking q coming before (h ∷ left) now → HasRoomFor (h ∷ []) now
has_room q coming before h left now is = record { order = is.order; new = new_first (h ∷ []) left now.items is.new; room = (let room = is.room in omega arith) }

pub one_taken : (q : Held → Bool) (coming : List Held) (before : Growing Held) (h : Held) (left : List Held) (now next : Growing Held) → IsTaking q coming before (h ∷ left) now → HasTaken q (h ∷ []) now next
    → IsTaking q coming before left next
one_taken q coming before h left now next is has =
    let room = is.room in
    let used = is.used in
    let more = has.more in
    record {
      order = has.order;
      done = ap (with_those q left) has.items ∙ both (cases_Bool (q h)) ∙ is.done;
      new = rw has.items (new_then q (h ∷ []) left now.items is.new);
      room = omega arith;
      used = omega arith;
    }
  where
    none : count_of h.version (filter q left) ≡ 0
    none =
        let one : one_of h.version h ≡ 1 = rw (same_version_self h.version) refl in
        omega (arith, is.new.once h.version, count_of-cons h.version h (left ++ now.items), count_of-append, count_of-filter)

    both : (q h ≡ true) ⊎ (q h ≡ false) → with_those q left (with_those q (h ∷ []) now.items) ≡ with_those q (h ∷ left) now.items
    both (inl side) = simp side (put_through h (filter q left) now.items none)
    both (inr other) = simp other

pub all_taken : (q : Held → Bool) (coming : List Held) (before now : Growing Held) → IsTaking q coming before [] now → HasTaken q coming before now
all_taken q coming before now is = (let used = is.used in record { order = is.order; items = is.done; more = omega arith })

-- the same where all come
pub all_put : (coming : List Held) (before now : Growing Held) → IsTaking (λ _. true) coming before [] now → now.items ≡ put_helds coming before.items
all_put coming before now is = is.done ∙ ap (λ (l : List Held). put_helds l before.items) (filter_true coming)

-- a set that is opened takes two lists, one after the other

pub first_fits : (handed takes helds : List Held) (room : Reserved) (set : Growing Held) → MayTake helds handed takes room → are_in_order helds ≡ true → set.items ≡ helds → set.more ≡ room.more → HasRoomFor handed set
first_fits handed takes helds room set may order is more = (let enough = may.more in record { order = rw is order; new = rw is (new_first handed takes helds may.new); room = omega arith })

pub then_fits : (q : Held → Bool) (handed takes helds : List Held) (room : Reserved) (set next : Growing Held) → MayTake helds handed takes room → set.items ≡ helds → set.more ≡ room.more → HasTaken q handed set next → HasRoomFor takes next
then_fits q handed takes helds room set next may is more has =
    let enough = may.more in
    let left = has.more in
    record { order = has.order; new = rw (has.items, is) (new_then q handed takes helds may.new); room = omega arith }

pub both_taken : (q : Held → Bool) (handed takes helds : List Held) (set next last : Growing Held) → set.items ≡ helds → HasTaken q handed set next → HasTaken q takes next last → last.items ≡ with_those q (takes ++ handed) helds
both_taken q handed takes helds set next last is first second = grind (arith, filter-append, put_helds-append)

-- What is given up

without_one : (v : Version) (xs : List Held) → helds_without (v ∷ []) xs ≡ filter (λ h. not (same_version h.version v)) xs
without_one v xs = filter_agree _ _ (λ h. grind (arith, nat_tests)) xs

-- two lists of versions, one after the other
without-append : (vs ws : List Version) (xs : List Held) → helds_without ws (helds_without vs xs) ≡ helds_without (vs ++ ws) xs
without-append vs ws xs = filter-filter _ _ xs ∙ filter_agree (λ h. not (is_listed vs h.version) && not (is_listed ws h.version)) _ (λ h. let both = list_any-append (λ v. same_version v h.version) vs ws in grind (arith, nat_tests)) xs

-- those of which a set has none
without_absent : (hs xs : List Held) → AreNoneOf hs xs → helds_without (versions_of hs) xs ≡ xs
without_absent [] xs none = filter_true xs
without_absent (h ∷ hs) xs none =
    let test = λ (g : Held). same_version g.version h.version in
    let absent : list_any test xs ≡ false = any_counted test xs ∙ (let zero = none.0 in grind (arith, nat_tests)) in
    let one : helds_without (h.version ∷ []) xs ≡ xs = without_one h.version xs ∙ none_out test xs absent in
    sym (without-append (h.version ∷ []) (versions_of hs) xs) ∙ ap (helds_without (versions_of hs)) one ∙ without_absent hs xs none.1

pub without_first : (hs gs xs : List Held) → AreNoneOf hs xs → helds_without (versions_of hs ++ versions_of gs) xs ≡ helds_without (versions_of gs) xs
without_first hs gs xs none = sym (without-append (versions_of hs) (versions_of gs) xs) ∙ ap (helds_without (versions_of gs)) (without_absent hs xs none)

pub without_second : (hs gs xs : List Held) → AreNoneOf gs xs → helds_without (versions_of hs ++ versions_of gs) xs ≡ helds_without (versions_of hs) xs
without_second hs gs xs none =
    sym (without-append (versions_of hs) (versions_of gs) xs) ∙ filter-swap _ _ xs ∙ ap (helds_without (versions_of hs)) (without_absent gs xs none)

-- what stands in one of two sets stands not in the other, where no version is held twice
pub none_of_others : (hs xs ys : List Held) → AllByRecursion (λ h. has_version_of h.picture h.version xs ≡ true) hs → ((v : Version) → count_of v xs + count_of v ys ≤ 1) → AreNoneOf hs ys
none_of_others [] xs ys held once = tt
none_of_others (h ∷ hs) xs ys held once =
    let test = λ (g : Held). same_version g.version h.version in
    let here = sym (any_counted test xs) ∙ any_wider _ test (λ g is. grind arith) xs held.0 in
    let both = once h.version in
    (grind (arith, nat_tests), none_of_others hs xs ys held.1 once)

-- a set that gives versions up: those that are left to go, and what it has now
pub record IsGivingUp (gone before left now : List Held) : Type 0 where
  pub once : (v : Version) → count_of v now ≤ 1
  pub rest : helds_without (versions_of left) now ≡ helds_without (versions_of gone) before

pub one_given_up : (gone before : List Held) (i : ℕ) (h : Held) (now : List Held) → i < length gone → h ≡ get_or gone i h → IsGivingUp gone before (drop i gone) now → IsGivingUp gone before (drop (i + 1) gone) (helds_without (h.version ∷ []) now)
one_given_up gone before i h now within at is = record {
  once = λ v. let was = is.once v in omega (arith, count_of-filter v (λ (g : Held). not (is_listed (h.version ∷ []) g.version)) now);
  rest = without-append (h.version ∷ []) (versions_of (drop (i + 1) gone)) now ∙ ap (λ (g : Held). helds_without (versions_of (g ∷ drop (i + 1) gone)) now) at ∙ sym (ap (λ (l : List Held). helds_without (versions_of l) now) (drop_more gone i h within)) ∙ is.rest;
}

pub all_given_up : (gone before now : List Held) (i : ℕ) → length gone ≤ i → IsGivingUp gone before (drop i gone) now → now ≡ helds_without (versions_of gone) before
all_given_up gone before now i all is = sym (ap (λ (l : List Held). helds_without (versions_of l) now) (drop_all i gone all) ∙ filter_true now) ∙ is.rest

-- what is left of a set, where a search by the code's test took out what it found
pub left_by_test : (v : Version) (old shown new : List Held) (found : Option Held) {F : Type 0} {f : Mut F (Bor Held × Unit {0}) Bool} {pred : F} → IfNone found (new ≡ old) → IfNone found ((p : Held → Bool) → ComputesKey f p pred → list_any p old ≡ false)
    → IfSome found (λ x. (p : Held → Bool) → ComputesKey f p pred → IsTakenOut p old x new) → old ≡ shown → count_of v shown ≤ 1
    → ((a : Bor Held × Unit {0}) (r : Bool) (f' : F) → Called f pred a r f' → (r ≡ same_version a.0.now.version v) × (f' ≡ pred))
    → new ≡ helds_without (v ∷ []) shown
left_by_test v old shown new None {f = f} {pred = pred} kept absent taken is once same =
    let test = λ (h : Held). same_version h.version v in
    let none = rw is at (absent test (always_returns_same f (λ a r. r ≡ test a.0.now) pred same)) in
    kept ∙ is ∙ sym (without_one v shown ∙ none_out test shown none)
left_by_test v old shown new (Some x) {f = f} {pred = pred} kept absent taken is once same =
    let test = λ (h : Held). same_version h.version v in
    let out = rw is at (taken test (always_returns_same f (λ a r. r ≡ test a.0.now) pred same)) in
    let only = only_one test shown out.place x once out.at out.passes in
    out.rest ∙ only.1 ∙ sym (without_one v shown)
