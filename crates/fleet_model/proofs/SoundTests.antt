-- The facts that runs keep imply the tests 'sound' and 'kept'.
use Rattle.std.proofs.Common.{◌≡◌, ℕ, zero, suc, ◌<◌, true, false, not, List, [], ◌∷◌, length, get_or, filter, refl, sym, subst, arith}
use Rattle.std.proofs.lemmas.Bool.{and_parts, and_from, not-true, not_from_false, false_from_ne_true}
use Rattle.photo_filter_text.specs.Tree.{All}
use Rattle.photo_version.specs.Author.{author}
use Rattle.photo_version.specs.Version.{Version}
use Rattle.photo_model.specs.Entry.{Entry, supersedes, superseded_by, is_among}
use Rattle.photo_model.specs.Device.{ModelDevice, known, holds, knows_entry, opening}
use Rattle.fleet_model.specs.Runs.{device_at}
use Rattle.fleet_model.specs.Members.{In, here, there}
use Rattle.fleet_model.specs.Sound.{is_wanted, is_sound, is_held_by, is_kept}
use Rattle.fleet_model.proofs.Members.{in_nothing, in_left, in_passed, passes, any_from, all_from}
use Rattle.fleet_model.proofs.Superseding.{clash, Supersedes, supersedes_is, superseded_is, is_superseded, in_is_among}
use Rattle.fleet_model.proofs.SoundFacts.{IsSoundDevice, IsHeld, IsSoundFleet}

-- reading within a list gives a member whatever the default, and each member has a place
in_place : {X : Type 0} (xs : List X) (k : ℕ) (d : X) → k < length xs → In (get_or xs k d) xs
in_place [] k d h = absurd (omega arith)
in_place (x ∷ xs) zero d h = here refl
in_place (x ∷ xs) (suc k) d h = there (in_place xs k d (omega arith))

pub place_of : {X : Type 0} {x : X} (xs : List X) → In x xs → (k : ℕ) × (k < length xs) × ((d : X) → get_or xs k d ≡ x)
place_of [] i = in_nothing i
place_of (x ∷ xs) (here e) = (0, omega arith, λ d. sym e)
place_of (x ∷ xs) (there i) = let r = place_of xs i in (suc r.0, omega arith, r.2)

module _ (log : List Entry) (d : ModelDevice) (D : IsSoundDevice log d) where
  nothing_newer : (e : Entry) → superseded_by (filter (knows_entry d) log) e ≡ false → (w : Entry) → In w log → knows_entry d w ≡ true → Supersedes w e → ⊥
  nothing_newer e h w i k s = clash _ (is_superseded (passes (knows_entry d) i k) s) h

  wanted_stored : (e : Entry) → In e (filter (is_wanted log d) log) → is_among d.store e.version ≡ true
  wanted_stored e i =
      let q = in_passed (is_wanted log d) log i in
      let a = and_parts _ _ q.1 in
      let b = and_parts _ _ a.1 in
      in_is_among (D.stored e q.0 a.0 b.0 (nothing_newer e (not-true _ b.1)))

  stored_newest : (e : Entry) → In e d.store → superseded_by (filter (knows_entry d) log) e ≡ false
  stored_newest e i = false_from_ne_true _ (λ h.
      let r = superseded_is _ _ h in
      let q = in_passed (knows_entry d) log r.1 in
      D.newest e r.0 i q.0 q.1 r.2)

  stored_wanted : (e : Entry) → In e d.store → is_wanted log d e ≡ true
  stored_wanted e i = and_from _ _ (D.held_known e (in_left d.out i)) (and_from _ _ (D.selected e i) (not_from_false _ (stored_newest e i)))

  pub device_is_sound : is_sound log d ≡ true
  device_is_sound = and_from _ _
      (all_from (λ (e : Entry). is_among d.store e.version) (filter (is_wanted log d) log) wanted_stored)
      (all_from (is_wanted log d) d.store stored_wanted)

module _ (log : List Entry) (devices : List ModelDevice) (H : IsSoundFleet log devices) where
  -- a fact about the device at each place is a fact about each device
  of_each : (P : ModelDevice → Type 0) → ((k : ℕ) → k < length devices → P (device_at devices k)) → (d : ModelDevice) → In d devices → P d
  of_each P all d i = let r = place_of devices i in subst P (r.2 (opening (author r.0) All)) (all r.0 r.1)

  pub each_is_sound : (d : ModelDevice) → In d devices → is_sound log d ≡ true
  each_is_sound = of_each (λ d. is_sound log d ≡ true) (λ k h. device_is_sound log (device_at devices k) (H.each k h))

  held_is_held : (e : Entry) → IsHeld devices e → is_held_by devices e ≡ true
  held_is_held e m =
      any_from (λ (d : ModelDevice). is_among (holds d) e.version) (in_place devices m.place (opening (author m.place) All) m.within) (in_is_among m.held)

  current_held : (e : Entry) → In e (filter (λ (x : Entry). not (superseded_by log x)) log) → is_held_by devices e ≡ true
  current_held e i =
      let q = in_passed (λ (x : Entry). not (superseded_by log x)) log i in
      held_is_held e (H.kept e q.0 (λ w j s. clash _ (is_superseded j s) (not-true _ q.1)))

  pub fleet_is_kept : is_kept log devices ≡ true
  fleet_is_kept = all_from (is_held_by devices) (filter (λ (x : Entry). not (superseded_by log x)) log) current_held

  pub held_is_logged : (d : ModelDevice) (e : Entry) → In d devices → In e (holds d) → In e log
  held_is_logged d e i = of_each (λ x. In e (holds x) → In e log) (λ k h. (H.traced.each k h).logged e) d i

  pub holds_no_older : (d : ModelDevice) (w v : Entry) → In d devices → In w (holds d) → In v (holds d) → supersedes w v ≡ false
  holds_no_older d w v i a b =
      false_from_ne_true _ (λ h. of_each (λ x. In w (holds x) → In v (holds x) → Supersedes w v → ⊥) (λ k l. (H.each k l).no_older w v) d i a b (supersedes_is w v h))

  pub knows_whole : (d : ModelDevice) (w : Entry) (v : Version) → In d devices → In w log → knows_entry d w ≡ true → w.history v ≡ true → known d w.picture v ≡ true
  knows_whole d w v i j = of_each (λ x. knows_entry x w ≡ true → w.history v ≡ true → known x w.picture v ≡ true) (λ k l a b. (H.each k l).closed w j a v b) d i
