-- Each command leaves the devices sound and loses nothing current, if they were sound before it.
use Rattle.std.proofs.Common.{◌≡◌, ℕ, ◌<◌, true, List, [], ◌∷◌, ◌++◌, ◌⊎◌, inl, inr, length, set, sym, subst}
use Rattle.std.proofs.lemmas.Bool.{cases_eq}
use Rattle.photo_record.specs.declared.record.Record.{Record}
use Rattle.photo_filter_text.specs.Tree.{Tree}
use Rattle.photo_filter_rules.specs.Covers.{covers}
use Rattle.photo_filter_rules.specs.Matching.{IsInRange}
use Rattle.photo_version.specs.Author.{epoch_of_author}
use Rattle.photo_model.specs.Entry.{Entry}
use Rattle.photo_model.specs.Device.{ModelDevice, holds, new_entry, made, narrowed}
use Rattle.photo_model.specs.Refiltered.{refiltered}
use Rattle.photo_model.specs.Pull.{pulled, handed_over}
use Rattle.fleet_model.specs.Runs.{device_at}
use Rattle.fleet_model.specs.Members.{In}
use Rattle.fleet_model.proofs.Members.{in_one, in_left, in_either}
use Rattle.fleet_model.proofs.Superseding.{Supersedes}
use Rattle.fleet_model.proofs.Places.{at_same, at_other, set_within, each_changed, two_set, two_within, at_first, at_second, at_neither, each_two_changed}
use Rattle.fleet_model.proofs.Narrowing.{still_held}
use Rattle.fleet_model.proofs.Refiltering.{held_again}
use Rattle.fleet_model.proofs.TracedFleets.{bounded, making_traced, narrowing_traced, refiltering_traced, pulling_traced}
use Rattle.fleet_model.proofs.SoundFacts.{IsSoundDevice, IsHeld, IsSoundFleet}
use Rattle.fleet_model.proofs.SoundMaking.{others_sound, longer_orderly, made_sound, kept_by_maker, new_held}
use Rattle.fleet_model.proofs.SoundNarrowing.{narrowed_sound}
use Rattle.fleet_model.proofs.SoundRefiltering.{refiltered_sound}
use Rattle.fleet_model.proofs.SoundPulling.{pulled_sound, handed_sound, kept_from_target, kept_from_source}

module _ (log : List Entry) (devices : List ModelDevice) (H : IsSoundFleet log devices) where
  module _ (k p : ℕ) (r : Record) (h : k < length devices) (fits : IsInRange r) where
    held_by_maker : (e : Entry) → In e (holds (made (device_at devices k) p r)) → IsHeld (set devices k (made (device_at devices k) p r)) e
    held_by_maker e i = record {
      place = k;
      within = set_within devices k k (made (device_at devices k) p r) h;
      held = subst (λ (x : ModelDevice). In e (holds x)) (sym (at_same devices k (made (device_at devices k) p r) h)) i;
    }

    kept_by_making : (e : Entry) → IsHeld devices e → ((w : Entry) → In w (log ++ new_entry (device_at devices k) p r ∷ []) → Supersedes w e → ⊥) → IsHeld (set devices k (made (device_at devices k) p r)) e
    kept_by_making e m none =
        let d = device_at devices k in
        elim (cases_eq m.place k) [
          | inl a ↦ held_by_maker e
              (kept_by_maker log d p r H.traced.log_is (H.traced.each k h) (bounded log devices H.traced k h) H.orderly (H.each k h) fits e
              (subst (λ (n : ℕ). In e (holds (device_at devices n))) a m.held) none)
          | inr a ↦ record {
            place = m.place;
            within = set_within devices k m.place (made d p r) m.within;
            held = subst (λ (x : ModelDevice). In e (holds x)) (sym (at_other devices k m.place (made d p r) a)) m.held;
          }
        ]

    pub making_sound : IsSoundFleet (log ++ new_entry (device_at devices k) p r ∷ []) (set devices k (made (device_at devices k) p r))
    making_sound =
        let d = device_at devices k in
        let limit = bounded log devices H.traced k h in
        record {
          traced = making_traced log devices H.traced k h p r;
          orderly = longer_orderly log d p r H.traced.log_is (H.traced.each k h) limit H.orderly (H.each k h) fits;
          each = each_changed (λ _ x. IsSoundDevice (log ++ new_entry d p r ∷ []) x) devices k (made d p r) h
              (made_sound log d p r H.traced.log_is (H.traced.each k h) limit H.orderly (H.each k h) fits)
              (λ j i _. others_sound log d p r H.traced.log_is (H.traced.each k h) limit (device_at devices j) (H.traced.each j i) (H.each j i));
          kept = λ e i none. elim (in_either log i) [
            | inl a ↦ kept_by_making e (H.kept e a (λ w j. none w (in_left (new_entry d p r ∷ []) j))) none
            | inr b ↦ subst (IsHeld (set devices k (made d p r))) (sym (in_one b))
                (held_by_maker (new_entry d p r) (new_held log d p r H.traced.log_is (H.traced.each k h) limit))
          ];
        }

  pub narrowing_sound : (k : ℕ) (tree : Tree) → k < length devices → covers (device_at devices k).tree tree ≡ true → IsSoundFleet log (set devices k (narrowed tree (device_at devices k)))
  narrowing_sound k tree h covered =
      let d = device_at devices k in
      record {
        traced = narrowing_traced log devices H.traced k h tree;
        orderly = H.orderly;
        each = each_changed (λ _ x. IsSoundDevice log x) devices k (narrowed tree d) h
            (narrowed_sound log tree d (H.traced.each k h) H.orderly (H.each k h) covered) (λ j i _. H.each j i);
        kept = λ e i none.
            let m : IsHeld devices e = H.kept e i none in
            record {
              place = m.place;
              within = set_within devices k m.place (narrowed tree d) m.within;
              held = each_changed (λ n x. In e (holds (device_at devices n)) → In e (holds x)) devices k (narrowed tree d) h
                  (still_held tree d) (λ _ _ _ j. j) m.place (set_within devices k m.place (narrowed tree d) m.within) m.held;
            };
      }

  pub refiltering_sound : (k : ℕ) (tree : Tree) → k < length devices → epoch_of_author (device_at devices k).author < 4294967295 → IsSoundFleet log (set devices k (refiltered tree (device_at devices k)))
  refiltering_sound k tree h few =
      let d = device_at devices k in
      record {
        traced = refiltering_traced log devices H.traced k h tree few;
        orderly = H.orderly;
        each = each_changed (λ _ x. IsSoundDevice log x) devices k (refiltered tree d) h
            (refiltered_sound log tree d H.traced.log_is (H.traced.each k h) H.orderly (H.each k h)) (λ j i _. H.each j i);
        kept = λ e i none.
            let m : IsHeld devices e = H.kept e i none in
            record {
              place = m.place;
              within = set_within devices k m.place (refiltered tree d) m.within;
              held = each_changed (λ n x. In e (holds (device_at devices n)) → In e (holds x)) devices k (refiltered tree d) h
                  (held_again tree d) (λ _ _ _ j. j) m.place (set_within devices k m.place (refiltered tree d) m.within) m.held;
            };
      }

  module _ (t s : ℕ) (h : t < length devices) (k : s < length devices) (apart : t ≡ s → ⊥) where
    abbrev after : List ModelDevice
    after = two_set devices t (pulled (device_at devices t) (device_at devices s)) s (handed_over (device_at devices t) (device_at devices s))

    held_by_either : (e : Entry) → In e (holds (pulled (device_at devices t) (device_at devices s))) ⊎ In e (holds (handed_over (device_at devices t) (device_at devices s))) → IsHeld after e
    held_by_either e m =
        let x = pulled (device_at devices t) (device_at devices s) in
        let y = handed_over (device_at devices t) (device_at devices s) in
        elim m [
          | inl a ↦ record {
            place = t;
            within = two_within devices t s t x y h;
            held = subst (λ (d : ModelDevice). In e (holds d)) (sym (at_first devices t s x y h apart)) a;
          }
          | inr a ↦ record {
            place = s;
            within = two_within devices t s s x y k;
            held = subst (λ (d : ModelDevice). In e (holds d)) (sym (at_second devices t s x y k)) a;
          }
        ]

    kept_by_pulling : (e : Entry) → In e log → IsHeld devices e → ((w : Entry) → In w log → Supersedes w e → ⊥) → IsHeld after e
    kept_by_pulling e i m none =
        let T = device_at devices t in
        let S = device_at devices s in
        elim (cases_eq m.place t) [
          | inl a ↦ held_by_either e (inl (kept_from_target log T S H.traced.log_is (H.traced.each t h) (H.traced.each s k) H.orderly (H.each t h) (H.each s k) e
              (subst (λ (n : ℕ). In e (holds (device_at devices n))) a m.held) i none))
          | inr a ↦ elim (cases_eq m.place s) [
            | inl b ↦ held_by_either e (kept_from_source log T S H.traced.log_is (H.traced.each t h) (H.traced.each s k) H.orderly (H.each t h) (H.each s k) e
                (subst (λ (n : ℕ). In e (holds (device_at devices n))) b m.held))
            | inr b ↦ record {
              place = m.place;
              within = two_within devices t s m.place (pulled T S) (handed_over T S) m.within;
              held = subst (λ (d : ModelDevice). In e (holds d)) (sym (at_neither devices t s m.place (pulled T S) (handed_over T S) a b)) m.held;
            }
          ]
        ]

    pub pulling_sound : IsSoundFleet log after
    pulling_sound =
        let T = device_at devices t in
        let S = device_at devices s in
        record {
          traced = pulling_traced log devices H.traced t s h k;
          orderly = H.orderly;
          each = each_two_changed (λ _ d. IsSoundDevice log d) devices t s (pulled T S) (handed_over T S) h k
              (pulled_sound log T S H.traced.log_is (H.traced.each t h) (H.traced.each s k) H.orderly (H.each t h) (H.each s k))
              (handed_sound log T S H.traced.log_is (H.traced.each t h) (H.traced.each s k) H.orderly (H.each t h) (H.each s k))
              H.each;
          kept = λ e i none. kept_by_pulling e i (H.kept e i none) none;
        }
