-- What held versions show as entries, and a device after it made a version.
use Rattle.std.proofs.Common.{◌≡◌, ℕ, ◌+◌, Bool, true, false, not, eqb, ◌||◌, cond, List, [], ◌∷◌, ◌++◌, refl, sym, ap, ◌∙◌, arith}
use Rattle.std.specs.Prelude.{filter}
use Rattle.std.specs.List.{list_any}
use Rattle.std.specs.Option.{option_map}
use Rattle.std.proofs.lemmas.Bool.Decides.{nat_tests}
use Rattle.std.proofs.lemmas.List.{map-append}
use Rattle.std.proofs.lemmas.List.Folds.{list_any-append, find-append}
use Rattle.photo_record.specs.declared.record.Record.{Record}
use Rattle.photo_filter_rules.specs.Matching.{matches}
use Rattle.photo_version.specs.Version.{Version, version, same_version}
use Rattle.photo_device.specs.declared.held.Held.{Held}
use Rattle.photo_model.specs.declared.place.Place.TheVariants.{Store, Out}
use Rattle.photo_model.specs.Ordered.{put}
use Rattle.photo_model.specs.Entry.{Entry, is_of_other, others, put_entry, put_entry_if, put_entries, without, find_entry}
use Rattle.photo_device.specs.Held.{entry_of, entries_of, held_before, held_of_others, replaced, put_helds, helds_without, has_picture, find_version_of}
use Rattle.photo_model.specs.Device.{ModelDevice, made, next_version, new_entry, place_for, holds, is_held}
use Rattle.photo_device.specs.Device.{Kept, Shows, held_at}
use Rattle.photo_device.specs.Own.{HasMade}

pub entries-filter : (q : Entry → Bool) (xs : List Held) → entries_of (filter (λ h. q (entry_of h)) xs) ≡ filter q (entries_of xs)
entries-filter q [] = refl
entries-filter q (x ∷ xs) = let rest = entries-filter q xs in grind (arith, nat_tests)

pub entries-others : (p : ℕ) (xs : List Held) → entries_of (held_of_others p xs) ≡ others p (entries_of xs)
entries-others p xs = entries-filter (is_of_other p) xs

pub entries-without : (drops : List Version) (xs : List Held) → entries_of (helds_without drops xs) ≡ without drops (entries_of xs)
entries-without drops xs = entries-filter (λ (e : Entry). not (list_any (λ v. same_version v e.version) drops)) xs

entries-put : (h : Held) (xs : List Held) → entries_of (put held_before h xs) ≡ put_entry (entry_of h) (entries_of xs)
entries-put h [] = refl
entries-put h (x ∷ xs) = let rest = entries-put h xs in grind (arith, nat_tests)

pub entries-put_helds : (xs helds : List Held) → entries_of (put_helds xs helds) ≡ put_entries (entries_of xs) (entries_of helds)
entries-put_helds [] helds = refl
entries-put_helds (h ∷ xs) helds = entries-put h (put_helds xs helds) ∙ ap (put_entry (entry_of h)) (entries-put_helds xs helds)

-- those that pass a test of entries are put in
pub entries-put_those : (q : Entry → Bool) (takes helds : List Held) → entries_of (put_helds (filter (λ h. q (entry_of h)) takes) helds) ≡ put_entries (filter q (entries_of takes)) (entries_of helds)
entries-put_those q takes helds = entries-put_helds (filter (λ h. q (entry_of h)) takes) helds ∙ ap (λ es. put_entries es (entries_of helds)) (entries-filter q takes)

entries-replaced : (h : Held) (xs : List Held) → entries_of (replaced h xs) ≡ put_entry (entry_of h) (others h.picture (entries_of xs))
entries-replaced h xs = entries-put h _ ∙ ap (put_entry (entry_of h)) (entries-others h.picture xs)

-- for attributes, which name no lemma with a dash
pub ruleset of_both = (find-append, entries-put_helds)

-- all that a device holds

pub held_shown : (d : Kept) (m : ModelDevice) → Shows d m → entries_of (d.store ++ d.out) ≡ holds m
held_shown d m shows = map-append entry_of d.store d.out ∙ (λ i. shows.store i ++ shows.out i)

-- of which pictures it holds a version
pub pictures_shown : (d : Kept) (m : ModelDevice) (p : ℕ) → Shows d m → (has_picture p d.store || has_picture p d.out) ≡ is_held m p
pictures_shown d m p shows =
    sym (list_any-append (λ (h : Held). eqb h.picture p) d.store d.out) ∙ by (d.store ++ d.out) ∙ ap (list_any (λ (e : Entry). eqb e.picture p)) (held_shown d m shows)
  where
    by : (xs : List Held) → has_picture p xs ≡ list_any (λ (e : Entry). eqb e.picture p) (entries_of xs)
    by [] = refl
    by (x ∷ xs) = ap (λ b. eqb x.picture p || b) (by xs)

-- what is found shows the entry that is found
pub found_shown : (d : Kept) (m : ModelDevice) (picture : ℕ) (version : Version) → Shows d m → option_map entry_of (find_version_of picture version (d.store ++ d.out)) ≡ find_entry picture version (holds m)
found_shown d m picture version shows = by (d.store ++ d.out) ∙ ap (find_entry picture version) (held_shown d m shows)
  where
    by : (xs : List Held) → option_map entry_of (find_version_of picture version xs) ≡ find_entry picture version (entries_of xs)
    by [] = refl
    by (x ∷ xs) = let rest = by xs in grind (arith, nat_tests)

-- what is held where a test of the filter says so
sets_at : (b : Bool) (d : Kept) (h : Held) → (entries_of (held_at (cond b Store Out) h d).store ≡ put_entry_if b (entry_of h) (others h.picture (entries_of d.store)))
    × (entries_of (held_at (cond b Store Out) h d).out ≡ put_entry_if (not b) (entry_of h) (others h.picture (entries_of d.out)))
sets_at true d h = (entries-replaced h d.store, entries-others h.picture d.out)
sets_at false d h = (entries-others h.picture d.store, entries-replaced h d.out)

-- the new version held at its place, counted and known
pub shows_made : (d new : Kept) (m : ModelDevice) (h : Held) (content : Record) → h.content ≡ content → HasMade (place_for d.tree content) h d new → Shows d m → Shows new (made m h.picture content)
shows_made d new m h content content_is has shows =
    let next = has.next in
    let new_is : h.version ≡ next_version m = next.next ∙ (λ j. version (shows.author j) (shows.counter j + 1)) in
    let same : entry_of h ≡ new_entry m h.picture content = λ i. record {
      picture = h.picture;
      version = new_is i;
      history = λ w. (next.history w ∙ shows.known h.picture next.above w) i;
      content = content_is i;
    } in
    let sets = sets_at (matches d.tree content) d h in
    record {
      author = ap (λ (k : Kept). k.author) has.rest ∙ shows.author;
      tree = ap (λ (k : Kept). k.tree) has.rest ∙ shows.tree;
      counter = ap (λ (k : Kept). k.counter) has.rest ∙ ap (λ n. n + 1) shows.counter;
      store = ap (λ (k : Kept). entries_of k.store) has.rest ∙ sets.0 ∙ (λ i. put_entry_if (matches (shows.tree i) content) (same i) (others h.picture (shows.store i)));
      out = ap (λ (k : Kept). entries_of k.out) has.rest ∙ sets.1 ∙ (λ i. put_entry_if (not (matches (shows.tree i) content)) (same i) (others h.picture (shows.out i)));
      known = λ q above w.
          has.learned q w above
          ∙ (λ i. shows.known q above w i || same_version (new_is i) w)
          ∙ grind arith;
    }
