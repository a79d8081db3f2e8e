-- A step of one device, the making of a version and a copy keep all right.
use Rattle.std.proofs.Common.{◌≡◌, ℕ, ◌<◌, true, false, List, [], ◌∷◌, ◌++◌, ◌⊎◌, inl, inr, length, set, refl, sym, ap, ◌∙◌, subst, arith}
use Rattle.std.proofs.lemmas.Bool.{cases_eq, eqb-true, and_parts, false_from_ne_true}
use Rattle.photo_record.specs.declared.record.Record.{Record}
use Rattle.photo_filter_rules.specs.Matching.{IsInRange}
use Rattle.photo_version.specs.Author.{device_of_author, same_device, author_before, is_earlier_epoch}
use Rattle.photo_model.specs.Entry.{Entry}
use Rattle.photo_model.specs.Device.{ModelDevice, known, holds, new_entry, made}
use Rattle.fleet_model.specs.Runs.{device_at}
use Rattle.fleet_model.specs.Members.{In}
use Rattle.fleet_model.proofs.Members.{in_one, in_left, in_either}
use Rattle.fleet_model.proofs.Superseding.{clash}
use Rattle.fleet_model.proofs.Places.{each_changed}
use Rattle.fleet_model.proofs.Making.{known_stays}
use Rattle.fleet_model.proofs.Epochs.{not_later}
use Rattle.fleet_model.proofs.Traced.{IsTracedDevice, IsTraced}
use Rattle.fleet_model.proofs.TracedSteps.{fresh, others_traced}
use Rattle.fleet_model.proofs.TracedFleets.{still_counted, bounded}
use Rattle.fleet_model.proofs.SoundFacts.{IsSoundDevice}
use Rattle.fleet_model.proofs.SoundMaking.{others_sound, kept_by_maker, new_held}
use Rattle.fleet_model.proofs.SoundFleets.{making_sound}
use Rattle.household_model.specs.Replica.{Receipt, receipt_for}
use Rattle.household_model.specs.Meeting.{HasReached, KnowsOnlyReached}
use Rattle.household_model.proofs.Facts.{IsRightReceipt, IsRightCopy, IsUnnamed, IsFreelyHeld, IsCurrent, IsRight}
use Rattle.household_model.proofs.Following.{IsFollowing, follows_within, receipt_stays, copy_stays, free_here, free_there}

-- each device has reached each version of the log, and so all that anybody knows
module _ (log : List Entry) (devices : List ModelDevice) (T : IsTraced log devices) (k : ℕ) (h : k < length devices) where
  pub reached_logged : (e : Entry) → In e log → HasReached (device_at devices k) e.version
  reached_logged e i =
      let a = (device_at devices k).author in
      let b = e.version.author in
      record {
        begun = false_from_ne_true _ (λ late.
            let parts = and_parts (same_device a b) (author_before a b) late in
            let place : k ≡ device_of_author b = sym (T.author k h) ∙ eqb-true (device_of_author a) (device_of_author b) parts.0 in
            clash (is_earlier_epoch a b) late (subst (λ (n : ℕ). is_earlier_epoch (device_at devices n).author b ≡ false) (sym place) (T.counted e i).begun));
        counted = bounded log devices T k h e i;
      }

  pub reached_known : (d : ModelDevice) → IsTracedDevice log d → KnowsOnlyReached (device_at devices k) d
  reached_known d D p v known =
      let m = D.made_only p v known in
      subst (HasReached (device_at devices k)) m.is (reached_logged m.entry m.logged)

-- a step of one device: it follows the device that it was, and is sound for the same log
pub record IsStep (log : List Entry) (old new : ModelDevice) : Type 0 where
  pub follows : IsFollowing old new
  pub traced : IsTracedDevice log new
  pub sound : IsSoundDevice log new

module _ (log : List Entry) (devices : List ModelDevice) (IsCopy : ModelDevice → Type 0) (Named : Receipt → Type 0) (H : IsRight log devices IsCopy Named) where
  -- the device at place k takes a step to x
  module _ (k : ℕ) (x : ModelDevice) (h : k < length devices) (S : IsStep log (device_at devices k) x) where
    pub copies_after : (c : ModelDevice) → IsCopy c → IsRightCopy log (set devices k x) c
    copies_after c is = let C = H.copies c is in copy_stays devices k x h S.follows log log c C C.traced C.sound

    pub receipts_after : (q : Receipt) → Named q → IsRightReceipt log (set devices k x) q
    receipts_after q named = receipt_stays devices k x h S.follows log log (λ e i. i) q (H.receipts q named)

    -- with other receipts that are right, all is right where each current entry is freely held
    pub step_right : (NamedNow : Receipt → Type 0) → ((q : Receipt) → NamedNow q → IsRightReceipt log (set devices k x) q)
        → ((e : Entry) → In e log → IsCurrent log e → IsFreelyHeld (set devices k x) NamedNow e)
        → IsRight log (set devices k x) IsCopy NamedNow
    step_right NamedNow right free = record {
      fleet = record {
        traced = record {
          log_is = H.fleet.traced.log_is;
          author = each_changed (λ n d. device_of_author d.author ≡ n) devices k x h (S.follows.place ∙ H.fleet.traced.author k h) (λ j i _. H.fleet.traced.author j i);
          counted = λ e i. still_counted devices k x h S.follows.keeps e.version (H.fleet.traced.counted e i);
          each = each_changed (λ _ d. IsTracedDevice log d) devices k x h S.traced (λ j i _. H.fleet.traced.each j i);
        };
        orderly = H.fleet.orderly;
        each = each_changed (λ _ d. IsSoundDevice log d) devices k x h S.sound (λ j i _. H.fleet.each j i);
        kept = λ e i none. let m = free e i none in record { place = m.place; within = m.within; held = m.held };
      };
      copies = copies_after;
      receipts = right;
      free = free;
    }

    -- with the same receipts, all is right where the device still holds freely what it held freely
    pub step_keeps : ((e : Entry) → In e (holds (device_at devices k)) → IsUnnamed Named (device_at devices k) e → In e (holds x) × IsUnnamed Named x e) → IsRight log (set devices k x) IsCopy Named
    step_keeps keeps = step_right Named receipts_after (λ e i none.
        let m = H.free e i none in
        elim (cases_eq m.place k) [
          | inl here ↦
              let kept = keeps e (subst (λ (n : ℕ). In e (holds (device_at devices n))) here m.held) (subst (λ (n : ℕ). IsUnnamed Named (device_at devices n) e) here m.unnamed) in
              free_here devices k x h Named e kept.0 kept.1
          | inr other ↦ free_there devices k x h Named e m.place m.within other m.held m.unnamed
        ])

  -- the device at place k makes a version
  module _ (k p : ℕ) (r : Record) (h : k < length devices) (fits : IsInRange r) where
    abbrev maker : ModelDevice
    maker = device_at devices k

    abbrev longer : List Entry
    longer = log ++ new_entry maker p r ∷ []

    making_follows : IsFollowing maker (made maker p r)
    making_follows = follows_within maker (made maker p r) refl (let n = maker.counter in omega arith) (λ q v. known_stays maker p r q v)

    -- no receipt is for the new version
    none_for_new : (e : Entry) → e ≡ new_entry maker p r → IsUnnamed Named (made maker p r) e
    none_for_new e new named =
        let R = H.receipts (receipt_for maker.author e) named in
        fresh log maker p r H.fleet.traced.log_is (H.fleet.traced.each k h) (bounded log devices H.fleet.traced k h)
        R.entry R.logged (ap (λ (q : Receipt). q.version) R.is ∙ ap (λ (x : Entry). x.version) new)

    free_after_making : (e : Entry) → In e log ⊎ In e (new_entry maker p r ∷ []) → IsCurrent longer e → IsFreelyHeld (set devices k (made maker p r)) Named e
    free_after_making e (inl old) none =
        let m = H.free e old (λ w j. none w (in_left (new_entry maker p r ∷ []) j)) in
        elim (cases_eq m.place k) [
          | inl here ↦ free_here devices k (made maker p r) h Named e
              (kept_by_maker log maker p r H.fleet.traced.log_is (H.fleet.traced.each k h) (bounded log devices H.fleet.traced k h) H.fleet.orderly (H.fleet.each k h) fits e
              (subst (λ (n : ℕ). In e (holds (device_at devices n))) here m.held) none)
              (subst (λ (n : ℕ). IsUnnamed Named (device_at devices n) e) here m.unnamed)
          | inr other ↦ free_there devices k (made maker p r) h Named e m.place m.within other m.held m.unnamed
        ]
    free_after_making e (inr new) none =
        free_here devices k (made maker p r) h Named e
        (subst (λ (x : Entry). In x (holds (made maker p r))) (sym (in_one new))
        (new_held log maker p r H.fleet.traced.log_is (H.fleet.traced.each k h) (bounded log devices H.fleet.traced k h)))
        (none_for_new e (in_one new))

    pub making_right : IsRight longer (set devices k (made maker p r)) IsCopy Named
    making_right = record {
      fleet = making_sound log devices H.fleet k p r h fits;
      copies = λ c is.
          let C = H.copies c is in
          copy_stays devices k (made maker p r) h making_follows log longer c C
          (others_traced log (new_entry maker p r ∷ []) c C.traced)
          (others_sound log maker p r H.fleet.traced.log_is (H.fleet.traced.each k h) (bounded log devices H.fleet.traced k h) c C.traced C.sound);
      receipts = λ q named. receipt_stays devices k (made maker p r) h making_follows log longer (λ e i. in_left (new_entry maker p r ∷ []) i) q (H.receipts q named);
      free = λ e i. free_after_making e (in_either log i);
    }

  -- a device as it is now is a right copy of itself
  pub right_now : (k : ℕ) → k < length devices → IsRightCopy log devices (device_at devices k)
  right_now k h = record {
    traced = H.fleet.traced.each k h;
    sound = H.fleet.each k h;
    begun = λ j i. elim (cases_eq j k) [
      | inl same ↦ subst (λ (n : ℕ). is_earlier_epoch (device_at devices n).author (device_at devices k).author ≡ false) (sym same) (not_later (device_at devices k).author)
      | inr other ↦ false_from_ne_true _ (λ late.
          let parts = and_parts (same_device (device_at devices j).author (device_at devices k).author) (author_before (device_at devices j).author (device_at devices k).author) late in
          other (sym (H.fleet.traced.author j i) ∙ eqb-true (device_of_author (device_at devices j).author) (device_of_author (device_at devices k).author) parts.0 ∙ H.fleet.traced.author k h))
    ];
    grown = λ j i a p v known_now.
        let same : j ≡ k = sym (H.fleet.traced.author j i) ∙ ap device_of_author a ∙ H.fleet.traced.author k h in
        subst (λ (n : ℕ). known (device_at devices n) p v ≡ true) (sym same) known_now;
    reached = reached_known log devices H.fleet.traced k h (device_at devices k) (H.fleet.traced.each k h);
  }

  -- with other copies that are right, and no more receipts
  pub carried : (IsCopyNow : ModelDevice → Type 0) (NamedNow : Receipt → Type 0) → ((c : ModelDevice) → IsCopyNow c → IsRightCopy log devices c) → ((q : Receipt) → NamedNow q → Named q) → IsRight log devices IsCopyNow NamedNow
  carried IsCopyNow NamedNow right among = record {
    fleet = H.fleet;
    copies = right;
    receipts = λ q named. H.receipts q (among q named);
    free = λ e i none.
        let m = H.free e i none in
        record { place = m.place; within = m.within; held = m.held; unnamed = λ named. m.unnamed (among (receipt_for (device_at devices m.place).author e) named) };
  }
