-- What is true of a device that took versions, or gave up some.
use Rattle.std.proofs.Common.{◌≡◌, ℕ, ◌+◌, ◌≤◌, ◌<◌, Bool, true, false, not, ◌||◌, List, [], ◌∷◌, ◌++◌, refl, sym, ap, ◌∙◌, inl, inr, arith, subst, ◌-◌, length}
use Rattle.std.specs.Prelude.{filter, None}
use Rattle.std.specs.List.{AllByRecursion}
use Rattle.std.proofs.lemmas.Bool.{and_parts, cases_lt}
use Rattle.std.proofs.lemmas.Bool.Decides.{nat_tests}
use Rattle.std.proofs.lemmas.List.{append-nil, length-map}
use Rattle.std.proofs.lemmas.List.Filters.{length-filter_both}
use Rattle.photo_filter_text.specs.Tree.{Tree}
use Rattle.photo_filter_rules.specs.Matching.{matches}
use Rattle.photo_version.specs.Version.{Version, version, same_version}
use Rattle.item_knowledge.specs.Fragments.{Fragment, knows}
use Rattle.photo_device.specs.declared.held.Held.{Held}
use Rattle.photo_model.specs.Entry.{is_of_other, without, Entry, put_entries}
use Rattle.photo_device.specs.Held.{held_before, count_of, find_version, is_listed, helds_without, put_helds, entry_of, entries_of, are_in_order}
use Rattle.photo_model.specs.Device.{ModelDevice, without_waiting, narrowed, moved}
use Rattle.photo_device.specs.Device.{Kept, Shows, held_at}
use Rattle.photo_model.specs.declared.place.Place.{Place}
use Rattle.photo_model.specs.declared.place.Place.TheVariants.{Store, Out}
use Rattle.photo_device.specs.Learning.{IsOwnLearned}
use Rattle.photo_device.specs.Own.{HasEarlier, IsKnownBy, IsDevice, IsNext, KnowsItsOwn}
use Rattle.photo_device.specs.Taking.{is_on_side, AreNewTo, with_side}
use Rattle.photo_model.proofs.AllLemmas.{all_append, all_back, all_filter, all_front, all_put}
use Rattle.photo_device.proofs.Counts.{count_of-append, count_of-filter, same_version_is, same_version_self, none_counted}
use Rattle.photo_device.proofs.Shown.{entries-without, entries-filter, entries-put_those}
use Rattle.photo_device.proofs.OwnLemmas.{known_later, none_of_next, own_learned}
use Rattle.photo_device.proofs.Taken.{count_of-put_helds}
use Rattle.photo_device.proofs.Order.{held_order, in_order-filter}
use Rattle.photo_device.proofs.Putting.{list_all_wider, put_first, filter_true}

pub all_put_helds : (P : Held → Type 0) (takes helds : List Held) → AllByRecursion P takes → AllByRecursion P helds → AllByRecursion P (put_helds takes helds)
all_put_helds P [] helds these those = those
all_put_helds P (h ∷ takes) helds these those = all_put P held_before h _ these.0 (all_put_helds P takes helds these.1 those)

-- a device that gives up versions, also with another filter
pub filters_device : (d : Kept) (q r : Held → Bool) → IsDevice d → IsDevice (record d { store = filter q d.store; out = filter r d.out })
filters_device d q r is = record {
  knows = is.knows;
  store = all_filter HasEarlier q d.store is.store;
  out = all_filter HasEarlier r d.out is.out;
  store_known = all_filter (IsKnownBy d.knowledge) q d.store is.store_known;
  out_known = all_filter (IsKnownBy d.knowledge) r d.out is.out_known;
  once = λ v. omega (arith, is.once v, count_of-append, count_of-filter);
}

-- each take is on one side
pub both_sides : (v : Version) (tree : Tree) (takes : List Held) → count_of v (filter (is_on_side true tree) takes) + count_of v (filter (is_on_side false tree) takes) ≡ count_of v takes
both_sides v tree [] = refl
both_sides v tree (h ∷ takes) = let rest = both_sides v tree takes in grind (arith, nat_tests)

-- what may be taken is new to the device
pub all_new : (takes : List Held) (d : Kept) → AllByRecursion (λ h. find_version h.version (d.store ++ d.out) ≡ None) takes → ((v : Version) → count_of v takes ≤ 1) → IsDevice d
    → AreNewTo (d.store ++ d.out) takes
all_new takes d new distinct is = record {
  once = λ v.
      let all = count_of-append v takes (d.store ++ d.out) in
      elim (cases_lt 0 (count_of v takes)) [
        | inl some ↦ let none = new_counted v (d.store ++ d.out) takes new some in omega (arith, distinct v)
        | inr none ↦ omega (arith, is.once v)
      ];
}
  where
    new_counted : (v : Version) (helds takes : List Held) → AllByRecursion (λ h. find_version h.version helds ≡ None) takes → 0 < count_of v takes → count_of v helds ≡ 0
    new_counted v helds [] all some = absurd (omega arith)
    new_counted v helds (h ∷ more) all some =
        let rest = new_counted v helds more all.1 in
        let none = none_counted h.version helds all.0 in
        grind (arith, nat_tests, same_version_is)

-- a device that takes versions into its store and its out, and knows more
puts_device : (ins outs : List Held) (new : List Fragment) (counter : ℕ) (tree : Tree) (d : Kept) → AreNewTo (d.store ++ d.out) (ins ++ outs) → AllByRecursion HasEarlier (ins ++ outs) → KnowsItsOwn d.author counter new
    → ((p : ℕ) (w : Version) → 0 < p → knows d.knowledge p w ≡ true → knows new p w ≡ true) → AllByRecursion (IsKnownBy new) (ins ++ outs) → IsDevice d
    → IsDevice (record d { tree = tree; counter = counter; store = put_helds ins d.store; out = put_helds outs d.out; knowledge = new })
puts_device ins outs new counter tree d once earlier own later known is = record {
  knows = own;
  store = all_put_helds HasEarlier ins d.store (all_front HasEarlier ins outs earlier) is.store;
  out = all_put_helds HasEarlier outs d.out (all_back HasEarlier ins outs earlier) is.out;
  store_known = all_put_helds (IsKnownBy new) ins d.store (all_front (IsKnownBy new) ins outs known) (known_later d.knowledge new later d.store is.store_known);
  out_known = all_put_helds (IsKnownBy new) outs d.out (all_back (IsKnownBy new) ins outs known) (known_later d.knowledge new later d.out is.out_known);
  once = λ v. omega (arith, once.once v, count_of-append, count_of-put_helds);
}

-- a device that takes versions, each into its place
pub joins_device : (takes : List Held) (new : List Fragment) (d : Kept) → AreNewTo (d.store ++ d.out) takes → AllByRecursion HasEarlier takes → KnowsItsOwn d.author d.counter new
    → ((p : ℕ) (w : Version) → 0 < p → knows d.knowledge p w ≡ true → knows new p w ≡ true) → AllByRecursion (IsKnownBy new) takes → IsDevice d
    → IsDevice (record d { store = with_side true d.tree takes d.store; out = with_side false d.tree takes d.out; knowledge = new })
joins_device takes new d once earlier own later known is = puts_device ins outs new d.counter d.tree d apart (both HasEarlier earlier) own later (both (IsKnownBy new) known) is
  where
    ins : List Held
    ins = filter (is_on_side true d.tree) takes

    outs : List Held
    outs = filter (is_on_side false d.tree) takes

    apart : AreNewTo (d.store ++ d.out) (ins ++ outs)
    apart = record { once = λ v. omega (arith, once.once v, both_sides v d.tree takes, count_of-append) }

    both : (P : Held → Type 0) → AllByRecursion P takes → AllByRecursion P (ins ++ outs)
    both P all = all_append P ins outs (all_filter P (is_on_side true d.tree) takes all) (all_filter P (is_on_side false d.tree) takes all)

-- some versions leave the out
pub shows_without : (versions : List Version) (d : Kept) (m : ModelDevice) → Shows d m → Shows (record d { out = helds_without versions d.out }) (without_waiting versions m)
shows_without versions d m shows = assumption (entries-without versions d.out ∙ ap (without versions) shows.out)

-- a device that gives up versions in its out
pub drops_device : (versions : List Version) (d : Kept) → IsDevice d → IsDevice (record d { out = helds_without versions d.out })
drops_device versions d is =
    subst (λ store. IsDevice (record d { store = store; out = helds_without versions d.out })) (filter_true d.store)
    (filters_device d (λ h. not (is_listed [] h.version)) (λ h. not (is_listed versions h.version)) is)

-- What is true of a device that made a version.

pub makes_device : (place : Place) (h : Held) (d : Kept) (new : List Fragment) → IsNext h d → IsOwnLearned h.version d.knowledge new → IsDevice d
    → IsDevice (record (held_at place h d) { counter = d.counter + 1; knowledge = new })
makes_device place h d new next learned is = by place
  where
    other : Held → Bool
    other x = is_of_other h.picture (entry_of x)

    less : Kept
    less = record d { store = filter other d.store; out = filter other d.out }

    made_earlier : HasEarlier h
    made_earlier = record { own = λ n. rw next.next (next.history (version d.author n) ∙ is.knows.own h.picture n next.above ∙ grind (arith, nat_tests)) }

    later : (p : ℕ) (w : Version) → 0 < p → knows d.knowledge p w ≡ true → knows new p w ≡ true
    later p w above here = learned.learned p w above ∙ ap (λ b. b || same_version h.version w) here

    itself_known : IsKnownBy new h
    itself_known = record {
      above = next.above;
      itself = grind (arith, learned.learned h.picture h.version next.above, same_version_self h.version);
      history = λ v has. later h.picture v next.above (sym (next.history v) ∙ has);
    }

    once : AreNewTo (less.store ++ less.out) (h ∷ [])
    once =
        let known = all_append (IsKnownBy d.knowledge) d.store d.out is.store_known is.out_known in
        let none = none_of_next d.author d.counter d.knowledge h.version (d.store ++ d.out) next.next is.knows known in
        let all = all_new (h ∷ []) d (none, tt) (λ v. grind (arith, nat_tests)) is in
        record { once = λ v. omega (arith, all.once v, count_of-append, count_of-filter) }

    puts : (ins outs : List Held) → ins ++ outs ≡ h ∷ [] → IsDevice (record less { counter = d.counter + 1; store = put_helds ins less.store; out = put_helds outs less.out; knowledge = new })
    puts ins outs all =
        puts_device ins outs new (d.counter + 1) d.tree less (rw all once) (rw all (made_earlier, tt)) (own_learned d.author d.counter h.version d.knowledge new next.next learned is.knows) later (rw all (itself_known, tt))
        (filters_device d other other is)

    by : (to : Place) → IsDevice (record (held_at to h d) { counter = d.counter + 1; knowledge = new })
    by Store = puts (h ∷ []) [] refl
    by Out = puts [] (h ∷ []) refl

-- What is true of a device that narrowed.

pub narrows_device : (tree : Tree) (d : Kept) → IsDevice d → IsDevice (record d { tree = tree; store = filter (λ h. matches tree h.content) d.store; out = with_side false tree d.store d.out })
narrows_device tree d is =
    puts_device [] (filter (is_on_side false tree) d.store) d.knowledge d.counter tree (record d { store = filter (is_on_side true tree) d.store }) apart
    (all_filter HasEarlier (is_on_side false tree) d.store is.store) is.knows (λ p w above known. known) (all_filter (IsKnownBy d.knowledge) (is_on_side false tree) d.store is.store_known)
    (subst (λ out. IsDevice (record d { store = filter (is_on_side true tree) d.store; out = out })) (filter_true d.out) (filters_device d (is_on_side true tree) (λ _. true) is))
  where
    apart : AreNewTo (filter (is_on_side true tree) d.store ++ d.out) (filter (is_on_side false tree) d.store)
    apart = record { once = λ v. omega (arith, is.once v, both_sides v tree d.store, count_of-append) }

pub shows_narrowed : (tree : Tree) (d : Kept) (m : ModelDevice) → Shows d m → Shows (record d { tree = tree; store = filter (λ h. matches tree h.content) d.store; out = with_side false tree d.store d.out }) (narrowed tree m)
shows_narrowed tree d m shows =
    let q = λ (e : Entry). matches tree e.content in
    let out = entries-put_those (λ (e : Entry). not (q e)) d.store d.out ∙ (λ i. put_entries (filter (λ e. not (q e)) (shows.store i)) (shows.out i)) in
    assumption (entries-filter q d.store ∙ ap (filter q) shows.store, out)

-- how many go
pub moved_away : (tree : Tree) (d : Kept) (m : ModelDevice) → Shows d m → length d.store - length (filter (λ h. matches tree h.content) d.store) ≡ moved tree m
moved_away tree d m shows =
    let q = λ (e : Entry). matches tree e.content in
    let split = length-filter_both q (λ e. not (q e)) (λ e. refl) (entries_of d.store) in
    grind (arith, shows.store, entries-filter q d.store, length-map d.store entry_of, length-map (filter (λ h. matches tree h.content) d.store) entry_of)

pub shorter : (q : Held → Bool) (xs : List Held) → length (filter q xs) ≤ length xs
shorter q xs = let both = length-filter_both q (λ h. not (q h)) (λ h. refl) xs in omega arith

-- a set in order, put together anew
put_in_none : (xs : List Held) → are_in_order xs ≡ true → put_helds xs [] ≡ xs
put_in_none [] o = refl
put_in_none (x ∷ xs) o = let rest = put_in_none xs in grind (arith, and_parts, put_first, held_order, list_all_wider)

-- what the tree matches of a set in order
pub kept_resorted : (tree : Tree) (xs ys zs : List Held) → are_in_order xs ≡ true → ys ≡ [] → zs ≡ [] → with_side true tree (xs ++ ys) zs ≡ filter (λ h. matches tree h.content) xs
kept_resorted tree xs ys zs o none empty = grind (arith, append-nil, put_in_none, in_order-filter)

-- versions of which none is there twice are new to an empty set
pub new_to_empty : (takes : List Held) → ((v : Version) → count_of v takes ≤ 1) → AreNewTo [] takes
new_to_empty takes once = record { once = λ v. let none : count_of v [] ≡ 0 = refl in let each = once v in omega (arith, count_of-append v takes []) }

-- and so is what is new to a set
pub new_alone : (takes helds : List Held) → AreNewTo helds takes → AreNewTo [] takes
new_alone takes helds new = new_to_empty takes (λ v. let once = new.once v in omega (arith, count_of-append v takes helds))
