-- The devices of a fleet have their places as numbers, and a device that holds a picture knows of it.
use Rattle.std.proofs.Common.{◌≡◌, ℕ, zero, suc, ◌<◌, Bool, true, ◌&&◌, ◌||◌, eqb, List, [], ◌∷◌, length, get_or, inl, inr, refl, sym, ap, ◌∙◌, subst, arith}
use Rattle.std.specs.Prelude.{Some, slice_get}
use Rattle.std.specs.List.{AllZip, list_any}
use Rattle.std.proofs.lemmas.Bool.{and_parts, and_from, or_cases, eqb-true, eq-eqb}
use Rattle.std.proofs.lemmas.Option.{slice_get_within, get_or_from_slice_get}
use Rattle.photo_filter_text.specs.Tree.{All}
use Rattle.photo_version.specs.Author.{author, device_of_author}
use Rattle.item_knowledge.specs.Fragments.{knows}
use Rattle.photo_device.specs.declared.held.Held.{Held}
use Rattle.photo_model.specs.Entry.{Entry}
use Rattle.photo_device.specs.Held.{entry_of, entries_of}
use Rattle.photo_model.specs.Device.{ModelDevice, holds, known, opening}
use Rattle.photo_device.specs.Device.{Kept, Shows}
use Rattle.fleet_model.specs.Runs.{device_at}
use Rattle.photo_pull.proofs.Members.{any_map}
use Rattle.fleet_model.specs.Members.{In, here, there}
use Rattle.fleet_model.specs.Ready.{IsReady}
use Rattle.fleet_model.proofs.Members.{in_left, in_right, any_from, any_gives}
use Rattle.fleet_model.proofs.Zipped.{zip_at, zip_long}
use Rattle.live_fleet.specs.Fleets.{KeptFleet, CameAbout, after_commands}
use Rattle.live_fleet.proofs.Histories.{came_sound, ready_after}
use Rattle.live_fleet.specs.Standing as asked
use Rattle.live_fleet.specs.Laws.{HasNumbers, HoldersKnow}

-- the entry of a held version is among the entries of the list
in_mapped : (h : Held) (hs : List Held) → In h hs → In (entry_of h) (entries_of hs)
in_mapped h hs (here e) = here (ap entry_of e)
in_mapped h hs (there i) = there (in_mapped h _ i)

-- the item at an index is in the list
in_at : {X : Type 0} (xs : List X) (k : ℕ) (d : X) → k < length xs → In (get_or xs k d) xs
in_at [] k d h = absurd (omega arith)
in_at (x ∷ xs) zero d h = here refl
in_at (x ∷ xs) (suc k) d h = there (in_at xs k d (omega arith))

-- the device at a place shows the model device there
shown_at : (devices : List Kept) (models : List ModelDevice) (k : ℕ) (d : Kept) → AllZip Shows devices models → slice_get devices k ≡ Some d → Shows d (device_at models k)
shown_at devices models k d shown is =
    subst (λ (x : Kept). Shows x (device_at models k)) (get_or_from_slice_get devices k d d is)
    (zip_at Shows devices models k d (opening (author k) All) shown (slice_get_within devices k d is))

place_within : (devices : List Kept) (models : List ModelDevice) (k : ℕ) (d : Kept) → AllZip Shows devices models → slice_get devices k ≡ Some d → k < length models
place_within devices models k d shown is =
    let within = slice_get_within devices k d is in
    let long = zip_long Shows devices models shown in
    omega (arith, within, long)

came_ready_for : (f : KeptFleet) (came : CameAbout f) → IsReady (after_commands came.filters came.commands).devices
came_ready_for f came =
    let count = came.count in
    let few = came.few in
    ready_after came.filters came.commands (omega (arith, count, few)) came.within

pub has_numbers : (f : KeptFleet) → CameAbout f → HasNumbers f
has_numbers f came k d is =
    let models = (after_commands came.filters came.commands).devices in
    let shows = shown_at f.devices models k d came.shown.devices is in
    ap device_of_author shows.author ∙ (came_ready_for f came).author k (place_within f.devices models k d came.shown.devices is)

-- a version of the picture that the device holds
held_one : (picture : ℕ) (d : Kept) (m : ModelDevice) → Shows d m → asked.holds picture d ≡ true → (h : Held) × In (entry_of h) (holds m) × (h.picture ≡ picture)
held_one picture d m shows is = elim (or_cases (asked.has picture d.store) (asked.has picture d.out) is) [
  | inl stored ↦
      let found = any_gives _ d.store stored in
      (found.0, in_left m.out (subst (In (entry_of found.0)) shows.store (in_mapped found.0 d.store found.1)), eqb-true found.0.picture picture (and_parts _ _ found.2).0)
  | inr waiting ↦
      let found = any_gives _ d.out waiting in
      (found.0, in_right m.store (subst (In (entry_of found.0)) shows.out (in_mapped found.0 d.out found.1)), eqb-true found.0.picture picture (and_parts _ _ found.2).0)
]

-- the device knows one of the log's entries of the picture
knows_one : (picture : ℕ) (d : Kept) (m : ModelDevice) (log : List Held) (h : Held) → 0 < picture → Shows d m → In (entry_of h) (entries_of log) → h.picture ≡ picture → known m h.picture h.version ≡ true → asked.knows_of log picture d ≡ true
knows_one picture d m log h above shows i same knows_it =
    any_same (λ g. (eqb g.picture picture) && knows d.knowledge picture g.version) (λ g. (eqb g.picture picture) && known m picture g.version) log
    (λ g. ap (λ b. (eqb g.picture picture) && b) (shows.known picture above g.version))
    ∙ sym (any_map (λ (e : Entry). (eqb e.picture picture) && known m picture e.version) entry_of log)
    ∙ any_from (λ (e : Entry). (eqb e.picture picture) && known m picture e.version) i (and_from (eqb h.picture picture) (known m picture h.version) (eq-eqb h.picture picture same) (subst (λ (p : ℕ). known m p h.version ≡ true) same knows_it))
  where
    any_same : (p q : Held → Bool) (xs : List Held) → ((x : Held) → p x ≡ q x) → list_any p xs ≡ list_any q xs
    any_same p q [] same = refl
    any_same p q (x ∷ xs) same = λ i. same x i || any_same p q xs same i

pub holders_know : (f : KeptFleet) → CameAbout f → HoldersKnow f
holders_know f came picture k d above is holds_it =
    let history = came_sound f came in
    let fleet = after_commands history.came.filters history.came.commands in
    let models = fleet.devices in
    let shown = history.came.shown in
    let shows = shown_at f.devices models k d shown.devices is in
    let within = place_within f.devices models k d shown.devices is in
    let found = held_one picture d (device_at models k) shows holds_it in
    let logged : In (entry_of found.0) fleet.log = history.sound.logged (device_at models k) (entry_of found.0) (in_at models k (opening (author k) All) within) found.1 in
    let itself = ((came_ready_for f history.came).held k within (entry_of found.0) found.1).itself in
    knows_one picture d (device_at models k) f.log found.0 above shows (subst (In (entry_of found.0)) (sym shown.log) logged) found.2 itself
