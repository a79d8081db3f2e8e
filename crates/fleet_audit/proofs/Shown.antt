-- An audit's tests on what devices keep are the definitions' tests on the model devices that they show.
use Rattle.std.proofs.Common.{◌≡◌, ℕ, suc, ◌<◌, Bool, true, false, cond, not, ◌==◌, ◌&&◌, ◌||◌, List, [], ◌∷◌, ◌++◌, length, get_or, take, ◌+◌, ◌≤◌, refl, sym, subst, ap, ap₂, ◌∙◌, arith}
use Rattle.std.specs.Prelude.{filter, Some, None}
use Rattle.std.specs.List.{list_any, list_all, AllZip, AllByRecursion}
use Rattle.std.proofs.lemmas.List.{map-append, take_all}
use Rattle.std.proofs.lemmas.List.Folds.{list_all-map, list_all_at, list_all_more}
use Rattle.photo_version.specs.Version.{Version, same_version}
use Rattle.photo_version.specs.Vector.{denotes}
use Rattle.photo_version.specs.Author.{author}
use Rattle.photo_filter_text.specs.Tree.{All}
use Rattle.photo_filter_rules.specs.Matching.{matches}
use Rattle.item_knowledge.specs.Fragments.{knows}
use Rattle.photo_device.specs.declared.held.Held.{Held}
use Rattle.photo_model.specs.Entry.{Entry, superseded_by, is_among}
use Rattle.photo_device.specs.Held.{entry_of, entries_of}
use Rattle.photo_model.specs.Device.{ModelDevice, holds, knows_entry, selects, opening}
use Rattle.photo_device.specs.Device.{Kept, Shows}
use Rattle.photo_pull.proofs.Members.{any_filter, any_map}
use Rattle.fleet_model.specs.Sound as sound
use Rattle.fleet_model.proofs.Zipped.{zip_at, zip_long}
use Rattle.fleet_audit.specs.Current.{is_outdated}
use Rattle.fleet_audit.specs.Audited.{has, is_placed, is_wanted, is_sound, is_held, is_kept}

module _ {X : Type 0} where
  any_alike : (P : X → Type 0) (p q : X → Bool) (xs : List X) → AllByRecursion P xs → ((x : X) → P x → p x ≡ q x) → list_any p xs ≡ list_any q xs
  any_alike P p q [] all same = refl
  any_alike P p q (x ∷ xs) all same = ap₂ (λ s t. s || t) (same x all.0) (any_alike P p q xs all.1 same)

  all_alike : (P : X → Type 0) (p q : X → Bool) (xs : List X) → AllByRecursion P xs → ((x : X) → P x → p x ≡ q x) → list_all p xs ≡ list_all q xs
  all_alike P p q [] all same = refl
  all_alike P p q (x ∷ xs) all same = ap₂ (λ s t. s && t) (same x all.0) (all_alike P p q xs all.1 same)

  all_filter : (p q : X → Bool) (xs : List X) → list_all p (filter q xs) ≡ list_all (λ x. not (q x) || p x) xs
  all_filter p q [] = refl
  all_filter p q (x ∷ xs) = elim (q x) as (λ b. list_all p (cond b (x ∷ filter q xs) (filter q xs)) ≡ ((not b || p x) && list_all (λ y. not (q y) || p y) xs)) [
    | true ↦ ap (λ t. p x && t) (all_filter p q xs)
    | false ↦ all_filter p q xs
  ]

  pub each_from_index : (P : X → Type 0) (xs : List X) → ((k : ℕ) (d : X) → k < length xs → P (get_or xs k d)) → AllByRecursion P xs
  each_from_index P [] all = tt
  each_from_index P (x ∷ xs) all = (all 0 x (omega arith), each_from_index P xs (λ k d l. all (suc k) d (omega arith)))

  pub each_of : (P Q : X → Type 0) (xs : List X) → ((x : X) → P x → Q x) → AllByRecursion P xs → AllByRecursion Q xs
  each_of P Q [] f all = tt
  each_of P Q (x ∷ xs) f all = (f x all.0, each_of P Q xs f all.1)

swapped : (a b c : Bool) → (a && (b && c)) ≡ (b && (a && c))
swapped true b c = refl
swapped false true c = refl
swapped false false c = refl

settled : (o k s a : Bool) → (o || (not (k && s) || a)) ≡ (not (k && (s && not o)) || a)
settled true true true a = refl
settled true true false a = refl
settled true false s a = refl
settled false true true a = refl
settled false true false a = refl
settled false false s a = refl

not_not : (b : Bool) → not (not b) ≡ b
not_not true = refl
not_not false = refl

-- the picture's number is above 0
abbrev pub IsAbove : Held → Type 0
IsAbove h = 0 < h.picture

has_among : (helds : List Held) (entries : List Entry) (v : Version) → entries_of helds ≡ entries → has helds v ≡ is_among entries v
has_among helds entries v is = sym (any_map (λ (e : Entry). same_version e.version v) entry_of helds) ∙ ap (λ es. is_among es v) is

module _ (log : List Held) (above : AllByRecursion IsAbove log) (d : Kept) (m : ModelDevice) (shows : Shows d m) where
  known_alike : (h : Held) → IsAbove h → knows d.knowledge h.picture h.version ≡ knows_entry m (entry_of h)
  known_alike h a = shows.known h.picture a h.version

  selected_alike : (h : Held) → matches d.tree h.content ≡ selects m (entry_of h)
  selected_alike h = ap (λ t. matches t h.content) shows.tree

  outdated_alike : (h : Held) → is_outdated (Some d) log h ≡ superseded_by (filter (knows_entry m) (entries_of log)) (entry_of h)
  outdated_alike h =
      any_alike IsAbove _ (λ w. knows_entry m (entry_of w) && ((w.picture == h.picture) && denotes w.made_with h.version)) log above
      (λ w a. swapped (w.picture == h.picture) (knows d.knowledge w.picture w.version) (denotes w.made_with h.version) ∙ ap (λ k. k && ((w.picture == h.picture) && denotes w.made_with h.version)) (known_alike w a))
      ∙ sym (any_map (λ (w : Entry). knows_entry m w && ((w.picture == h.picture) && w.history h.version)) entry_of log)
      ∙ sym (any_filter (λ (w : Entry). (w.picture == h.picture) && w.history h.version) (knows_entry m) (entries_of log))

  wanted_alike : (h : Held) → IsAbove h → is_wanted log d h ≡ sound.is_wanted (entries_of log) m (entry_of h)
  wanted_alike h a = λ i. known_alike h a i && (selected_alike h i && not (outdated_alike h i))

  placed_alike : (h : Held) → IsAbove h → (is_outdated (Some d) log h || is_placed d h) ≡ (not (sound.is_wanted (entries_of log) m (entry_of h)) || is_among m.store h.version)
  placed_alike h a =
      settled (is_outdated (Some d) log h) (knows d.knowledge h.picture h.version) (matches d.tree h.content) (has d.store h.version)
      ∙ (λ i. not (wanted_alike h a i) || has_among d.store m.store h.version shows.store i)

  pub sound_alike : AllByRecursion IsAbove d.store → is_sound log d ≡ sound.is_sound (entries_of log) m
  sound_alike stored =
      ap₂ (λ s t. s && t)
      (all_alike IsAbove _ _ log above placed_alike
      ∙ sym (list_all-map (λ (e : Entry). not (sound.is_wanted (entries_of log) m e) || is_among m.store e.version) entry_of log)
      ∙ sym (all_filter (λ (e : Entry). is_among m.store e.version) (sound.is_wanted (entries_of log) m) (entries_of log)))
      (all_alike IsAbove _ _ d.store stored wanted_alike
      ∙ sym (list_all-map (sound.is_wanted (entries_of log) m) entry_of d.store)
      ∙ ap (list_all (sound.is_wanted (entries_of log) m)) shows.store)

held_alike : (devices : List Kept) (models : List ModelDevice) → AllZip Shows devices models → (v : Version) → list_any (λ d. has (d.store ++ d.out) v) devices ≡ list_any (λ m. is_among (holds m) v) models
held_alike [] [] all v = refl
held_alike [] (m ∷ ms) all v = absurd all
held_alike (d ∷ ds) [] all v = absurd all
held_alike (d ∷ ds) (m ∷ ms) all v =
    let same : entries_of (d.store ++ d.out) ≡ holds m = map-append entry_of d.store d.out ∙ ap₂ (λ x y. x ++ y) all.0.store all.0.out in
    ap₂ (λ s t. s || t) (has_among (d.store ++ d.out) (holds m) v same) (held_alike ds ms all.1 v)

pub kept_alike : (log : List Held) (devices : List Kept) (models : List ModelDevice) → AllZip Shows devices models → is_kept log devices ≡ sound.is_kept (entries_of log) models
kept_alike log devices models all =
    same_all (λ h. is_outdated None log h || is_held devices h) (λ h. not (not (superseded_by (entries_of log) (entry_of h))) || sound.is_held_by models (entry_of h)) log
    (λ h. ap₂ (λ s t. s || t) (sym (any_map (λ (w : Entry). (w.picture == h.picture) && w.history h.version) entry_of log) ∙ sym (not_not _)) (held_alike devices models all h.version))
    ∙ sym (list_all-map (λ (e : Entry). not (not (superseded_by (entries_of log) e)) || sound.is_held_by models e) entry_of log)
    ∙ sym (all_filter (sound.is_held_by models) (λ (e : Entry). not (superseded_by (entries_of log) e)) (entries_of log))
  where
    same_all : (p q : Held → Bool) (xs : List Held) → ((h : Held) → p h ≡ q h) → list_all p xs ≡ list_all q xs
    same_all p q [] same = refl
    same_all p q (x ∷ xs) same = ap₂ (λ s t. s && t) (same x) (same_all p q xs same)

-- the devices are checked one after another
module _ (log : List Entry) (devices : List Kept) (models : List ModelDevice) (all : AllZip Shows devices models) where
  other : ModelDevice
  other = opening (author 0) All

  module _ (i : ℕ) (d : Kept) (l : i < length devices) (is : get_or devices i d ≡ d) (r : Bool) (told : (m : ModelDevice) → Shows d m → r ≡ sound.is_sound log m) where
    within : i < length models
    within = omega (arith, zip_long Shows devices models all)

    here : r ≡ sound.is_sound log (get_or models i other)
    here = told (get_or models i other) (subst (λ (x : Kept). Shows x (get_or models i other)) is (zip_at Shows devices models i d other all l))

    pub one_fails : r ≡ false → (rest : Bool) → false ≡ (list_all (sound.is_sound log) models && rest)
    one_fails failed rest = sym (ap (λ b. b && rest) (list_all_at (sound.is_sound log) models i other within (sym here ∙ failed)))

    pub one_more : r ≡ true → list_all (sound.is_sound log) (take i models) ≡ true → list_all (sound.is_sound log) (take (i + 1) models) ≡ true
    one_more passed before =
        list_all_more (sound.is_sound log) models i other within
        ∙ ap₂ (λ s t. s && t) before (sym here ∙ passed)

  pub all_passed : (n : ℕ) → length devices ≤ n → list_all (sound.is_sound log) (take n models) ≡ true → (rest : Bool) → rest ≡ (list_all (sound.is_sound log) models && rest)
  all_passed n enough passed rest =
      let whole : take n models ≡ models = take_all n models (omega (arith, zip_long Shows devices models all)) in
      ap (λ b. b && rest) (sym passed ∙ ap (list_all (sound.is_sound log)) whole)
