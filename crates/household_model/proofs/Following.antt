-- Where one device is replaced by one that follows it, copies and receipts stay right, and what was counted stays counted.
use Rattle.std.proofs.Common.{◌≡◌, ℕ, ◌<◌, ◌≤◌, true, false, List, inl, inr, length, set, refl, sym, ap, ◌∙◌, subst, le_refl}
use Rattle.std.proofs.lemmas.Bool.{cases_Bool, and_parts, and_from, eqb-true, eq-eqb, false≢true}
use Rattle.photo_version.specs.Author.{Author, device_of_author, same_device, author_before, is_earlier_epoch}
use Rattle.photo_version.specs.Version.{Version}
use Rattle.photo_version.proofs.AuthorLemmas.{before_trans}
use Rattle.photo_model.specs.Entry.{Entry}
use Rattle.photo_model.specs.Device.{ModelDevice, known, holds}
use Rattle.fleet_model.specs.Runs.{device_at}
use Rattle.fleet_model.specs.Members.{In}
use Rattle.fleet_model.proofs.Places.{at_same, at_other, within_set, set_within, each_changed}
use Rattle.fleet_model.proofs.Epochs.{not_later, KeepsCount, same_epoch}
use Rattle.fleet_model.proofs.Traced.{IsTracedDevice}
use Rattle.fleet_model.proofs.SoundFacts.{IsSoundDevice}
use Rattle.household_model.specs.Replica.{Receipt}
use Rattle.household_model.proofs.Facts.{IsRightReceipt, IsRightCopy, IsUnnamed, IsFreelyHeld}

-- the new device is in the same epoch and knows no less, or in an epoch that had not begun
pub record IsFollowing (old new : ModelDevice) : Type 0 where
  pub keeps : KeepsCount old new
  pub place : device_of_author new.author ≡ device_of_author old.author
  pub same : (a : Author) → is_earlier_epoch old.author a ≡ false → new.author ≡ a → old.author ≡ a
  pub grown : new.author ≡ old.author → (p : ℕ) (v : Version) → known old p v ≡ true → known new p v ≡ true

pub follows_within : (old new : ModelDevice) → new.author ≡ old.author → old.counter ≤ new.counter → ((p : ℕ) (v : Version) → known old p v ≡ true → known new p v ≡ true) → IsFollowing old new
follows_within old new same more grown = record {
  keeps = same_epoch old new same more;
  place = ap device_of_author same;
  same = λ a h e. sym same ∙ e;
  grown = λ e. grown;
}

later_than_later : (a b c : Author) → is_earlier_epoch a b ≡ true → is_earlier_epoch b c ≡ true → is_earlier_epoch a c ≡ true
later_than_later a b c h g =
    let first = and_parts (same_device a b) (author_before a b) h in
    let second = and_parts (same_device b c) (author_before b c) g in
    let same = eqb-true (device_of_author a) (device_of_author b) first.0 ∙ eqb-true (device_of_author b) (device_of_author c) second.0 in
    and_from (same_device a c) (author_before a c) (eq-eqb (device_of_author a) (device_of_author c) same) (before_trans a b c first.1 second.1)

-- a device in a later epoch follows, whatever it knows
pub follows_later : (old new : ModelDevice) → is_earlier_epoch old.author new.author ≡ true → IsFollowing old new
follows_later old new later =
    let parts = and_parts (same_device old.author new.author) (author_before old.author new.author) later in
    record {
      keeps = record {
        begun = λ a begun. elim (cases_Bool (is_earlier_epoch new.author a)) [
          | inl more ↦ absurd (false≢true (sym begun ∙ later_than_later old.author new.author a later more))
          | inr none ↦ none
        ];
        reached = λ v begun before here. absurd (false≢true (sym begun ∙ ap (is_earlier_epoch old.author) here ∙ later));
      };
      place = sym (eqb-true (device_of_author old.author) (device_of_author new.author) parts.0);
      same = λ a begun e. absurd (false≢true (sym begun ∙ ap (is_earlier_epoch old.author) (sym e) ∙ later));
      grown = λ e p v k. absurd (false≢true (sym (not_later old.author) ∙ ap (is_earlier_epoch old.author) (sym e) ∙ later));
    }

module _ (devices : List ModelDevice) (k : ℕ) (x : ModelDevice) (h : k < length devices) where
  module _ (F : IsFollowing (device_at devices k) x) where
    each_follows : (j : ℕ) → j < length (set devices k x) → IsFollowing (device_at devices j) (device_at (set devices k x) j)
    each_follows = each_changed (λ j d. IsFollowing (device_at devices j) d) devices k x h F (λ j i _. follows_within (device_at devices j) (device_at devices j) refl (le_refl _) (λ p v a. a))

    pub receipt_stays : (log longer : List Entry) → ((e : Entry) → In e log → In e longer) → (q : Receipt) → IsRightReceipt log devices q → IsRightReceipt longer (set devices k x) q
    receipt_stays log longer grows q R = record {
      entry = R.entry;
      logged = grows R.entry R.logged;
      is = R.is;
      begun = λ j i. (each_follows j i).keeps.begun q.giver (R.begun j (within_set devices k j x i));
      knew = λ j i a.
          let before = within_set devices k j x i in
          let same = (each_follows j i).same q.giver (R.begun j before) a in
          (each_follows j i).grown (a ∙ sym same) R.entry.picture R.entry.version (R.knew j before same);
    }

    pub copy_stays : (log longer : List Entry) (c : ModelDevice) → IsRightCopy log devices c → IsTracedDevice longer c → IsSoundDevice longer c → IsRightCopy longer (set devices k x) c
    copy_stays log longer c R traced sound = record {
      traced = traced;
      sound = sound;
      begun = λ j i. (each_follows j i).keeps.begun c.author (R.begun j (within_set devices k j x i));
      grown = λ j i a p v known.
          let before = within_set devices k j x i in
          let same = (each_follows j i).same c.author (R.begun j before) a in
          (each_follows j i).grown (a ∙ sym same) p v (R.grown j before same p v known);
      reached = R.reached;
    }

  -- the new device holds the entry freely, or another one does
  module _ (Named : Receipt → Type 0) (e : Entry) where
    pub free_here : In e (holds x) → IsUnnamed Named x e → IsFreelyHeld (set devices k x) Named e
    free_here held unnamed = record {
      place = k;
      within = set_within devices k k x h;
      held = subst (λ (d : ModelDevice). In e (holds d)) (sym (at_same devices k x h)) held;
      unnamed = subst (λ (d : ModelDevice). IsUnnamed Named d e) (sym (at_same devices k x h)) unnamed;
    }

    pub free_there : (j : ℕ) → j < length devices → (j ≡ k → ⊥) → In e (holds (device_at devices j)) → IsUnnamed Named (device_at devices j) e → IsFreelyHeld (set devices k x) Named e
    free_there j i other held unnamed = record {
      place = j;
      within = set_within devices k j x i;
      held = subst (λ (d : ModelDevice). In e (holds d)) (sym (at_other devices k j x other)) held;
      unnamed = subst (λ (d : ModelDevice). IsUnnamed Named d e) (sym (at_other devices k j x other)) unnamed;
    }
