-- After any events all is right, so the household law and the meeting law hold.
use Rattle.std.proofs.Common.{◌≡◌, ℕ, ◌<◌, true, false, List, [], ◌∷◌, inl, inr, length, map, refl, sym, ap, subst}
use Rattle.std.proofs.lemmas.Bool.{false≢true}
use Rattle.photo_filter_text.specs.Tree.{Tree, All}
use Rattle.photo_version.specs.Author.{author, same_device}
use Rattle.photo_version.specs.Version.{Version}
use Rattle.photo_model.specs.Entry.{Entry}
use Rattle.photo_model.specs.Device.{ModelDevice, holds, opening}
use Rattle.fleet_model.specs.Runs.{device_at, opening_from}
use Rattle.fleet_model.specs.Members.{In}
use Rattle.fleet_model.specs.Ready.{IsKnownTo}
use Rattle.fleet_model.proofs.Members.{in_nothing}
use Rattle.fleet_model.proofs.Traced.{IsTracedDevice}
use Rattle.fleet_model.proofs.SoundFacts.{IsSoundDevice}
use Rattle.fleet_model.proofs.SoundRuns.{opening_sound, sound_and_kept}
use Rattle.fleet_model.proofs.SoundTests.{place_of}
use Rattle.household_model.specs.Replica.{Receipt, Replica}
use Rattle.household_model.specs.Household.{Household, Event, AreInRange, after_event, after_events, new_replica, opening_household, household_after, devices_of, fleet_of}
use Rattle.household_model.specs.Meeting.{HasReached, HasReachedReceipt, MayPullCopy}
use Rattle.household_model.specs.Laws.{StaysSoundAndKept, CopiesMayBePulled}
use Rattle.household_model.proofs.Facts.{IsRight}
use Rattle.household_model.proofs.RightSteps.{reached_logged, reached_known}
use Rattle.household_model.proofs.Replicas.{in_mapped, mapped_in, IsNamed, IsRightIn, IsRightHousehold}
use Rattle.household_model.proofs.EachEvent.{event_keeps}

opened_devices : (ds : List ModelDevice) → devices_of (map new_replica ds) ≡ ds
opened_devices [] = refl
opened_devices (d ∷ ds) = ap (λ (more : List ModelDevice). d ∷ more) (opened_devices ds)

-- there are no receipts yet
none_named : (filters : List Tree) {P : Type 0} (q : Receipt) → IsNamed (opening_household filters).replicas [] q → P
none_named filters q m = elim m.among [
  | inl live ↦ let r = in_mapped new_replica (opening_from 0 filters) live in absurd (false≢true (subst (λ (x : Replica). x.receipts q ≡ true) r.2 m.kept))
  | inr copy ↦ in_nothing copy
]

opening_right : (filters : List Tree) → IsRightHousehold (opening_household filters)
opening_right filters =
    subst (λ (ds : List ModelDevice). IsRightIn [] ds [] (IsNamed (opening_household filters).replicas [])) (sym (opened_devices (opening_from 0 filters)))
    (record {
      fleet = opening_sound filters;
      copies = λ c i. in_nothing i;
      receipts = λ q named. none_named filters q named;
      free = λ e i. in_nothing i;
    })

events_keep : (events : List Event) (h : Household) → AreInRange events → IsRightHousehold h → IsRightHousehold (after_events h events)
events_keep [] h fits right = right
events_keep (e ∷ events) h fits right = events_keep events (after_event h e) fits.1 (event_keeps h right e fits.0)

pub all_right : (filters : List Tree) (events : List Event) → AreInRange events → IsRightHousehold (household_after filters events)
all_right filters events fits = events_keep events (opening_household filters) fits (opening_right filters)

pub stays_sound_and_kept : StaysSoundAndKept
stays_sound_and_kept filters events fits =
    sound_and_kept (fleet_of (household_after filters events)) (all_right filters events fits).fleet

knows_held : (log : List Entry) (d : ModelDevice) → IsTracedDevice log d → IsSoundDevice log d → (e : Entry) → In e (holds d) → IsKnownTo d e
knows_held log d D S e i = record { itself = S.held_known e i; history = λ v had. S.closed e (D.logged e i) (S.held_known e i) v had }

-- what a pull asks of the device at place k and a copy of another device
module _ (log : List Entry) (devices : List ModelDevice) (IsCopy : ModelDevice → Type 0) (Named : Receipt → Type 0) (H : IsRight log devices IsCopy Named) (k : ℕ) (h : k < length devices) where
  reached_receipt : (q : Receipt) → Named q → HasReachedReceipt (device_at devices k) q
  reached_receipt q named =
      let R = H.receipts q named in
      record {
        version = subst (λ (v : Version). HasReached (device_at devices k) v) (ap (λ (x : Receipt). x.version) R.is) (reached_logged log devices H.fleet.traced k h R.entry R.logged);
        giver = R.begun k h;
      }

  may_pull : (copy : Replica) → IsCopy copy.device → ((q : Receipt) → copy.receipts q ≡ true → Named q) → same_device (device_at devices k).author copy.device.author ≡ false → MayPullCopy (device_at devices k) copy
  may_pull copy is named differ =
      let C = H.copies copy.device is in
      let D = H.fleet.traced.each k h in
      record {
        differ = differ;
        one = λ e g i j same. H.fleet.traced.log_is.distinct e g (D.logged e i) (C.traced.logged g j) same;
        itself = reached_known log devices H.fleet.traced k h (device_at devices k) D;
        knowledge = reached_known log devices H.fleet.traced k h copy.device C.traced;
        receipts = λ q kept. reached_receipt q (named q kept);
        copy_itself = C.reached;
        held = knows_held log (device_at devices k) D (H.fleet.each k h);
        held_by_copy = knows_held log copy.device C.traced C.sound;
      }

pub copies_may_be_pulled : CopiesMayBePulled
copies_may_be_pulled filters events fits r copy i j differ =
    let h = household_after filters events in
    let place = place_of (devices_of h.replicas) (mapped_in (λ (x : Replica). x.device) i) in
    let there : device_at (devices_of h.replicas) place.0 ≡ r.device = place.2 (opening (author place.0) All) in
    subst (λ (d : ModelDevice). MayPullCopy d copy) there
    (may_pull h.log (devices_of h.replicas) (λ c. In c (devices_of h.copies)) (λ q. IsNamed h.replicas h.copies q) (all_right filters events fits) place.0 place.1 copy
    (mapped_in (λ (x : Replica). x.device) j)
    (λ q kept. record { holder = copy; among = inr j; kept = kept })
    (subst (λ (d : ModelDevice). same_device d.author copy.device.author ≡ false) (sym there) differ))
