-- Narrowing, another epoch, taking from a copy and giving up some of an out are steps of one device.
use Rattle.std.proofs.Common.{◌≡◌, ℕ, ◌+◌, ◌*◌, ◌/◌, ◌%◌, ◌<◌, Bool, true, List, inl, inr, filter, refl, sym, arith, le_refl}
use Rattle.std.proofs.lemmas.Bool.{and_parts, and_from, eq-eqb, lt-ltb, ltb-true}
use Rattle.photo_filter_text.specs.Tree.{Tree}
use Rattle.photo_filter_rules.specs.Covers.{covers}
use Rattle.photo_version.specs.Author.{author_at, device_of_author, epoch_of_author, same_device, author_before, is_earlier_epoch}
use Rattle.photo_version.specs.Words.{device_back}
use Rattle.photo_model.specs.Entry.{Entry}
use Rattle.photo_model.specs.Device.{ModelDevice, holds, narrowed}
use Rattle.photo_model.specs.Pull.{pulled}
use Rattle.photo_model.specs.Refiltered.{begun}
use Rattle.fleet_model.specs.Members.{In}
use Rattle.fleet_model.proofs.Members.{in_left, in_right, in_either, in_passed, passes}
use Rattle.fleet_model.proofs.Pulling.{after_old}
use Rattle.fleet_model.proofs.Traced.{IsTracedLog, IsTracedDevice}
use Rattle.fleet_model.proofs.TracedSteps.{narrowed_traced, refiltered_traced, pulled_traced}
use Rattle.fleet_model.proofs.SoundFacts.{IsOrderly, IsSoundDevice}
use Rattle.fleet_model.proofs.SoundNarrowing.{narrowed_sound}
use Rattle.fleet_model.proofs.SoundRefiltering.{refiltered_sound}
use Rattle.fleet_model.proofs.SoundPulling.{pulled_sound}
use Rattle.household_model.specs.Replica.{may_begin}
use Rattle.household_model.proofs.Following.{follows_within, follows_later}
use Rattle.household_model.proofs.RightSteps.{IsStep}

-- the epoch that begins is later than the present one
pub begun_is_later : (epoch : ℕ) (d : ModelDevice) → may_begin epoch d ≡ true → is_earlier_epoch d.author (author_at (device_of_author d.author) epoch) ≡ true
begun_is_later epoch d may =
    let a = d.author in
    let next = author_at (device_of_author a) epoch in
    let parts = and_parts _ _ may in
    let later : a.word % 4294967296 < epoch = ltb-true (epoch_of_author a) epoch parts.0 in
    let fits : epoch < 4294967296 = ltb-true epoch 4294967296 parts.1 in
    let before : a.word < a.word / 4294967296 * 4294967296 + epoch = omega (arith, later) in
    and_from (same_device a next) (author_before a next) (eq-eqb (device_of_author a) (device_of_author next) (sym (device_back (device_of_author a) epoch fits))) (lt-ltb a.word next.word before)

module _ (log : List Entry) (d : ModelDevice) (L : IsTracedLog log) (O : IsOrderly log) (D : IsTracedDevice log d) (S : IsSoundDevice log d) where
  pub narrowing_step : (tree : Tree) → covers d.tree tree ≡ true → IsStep log d (narrowed tree d)
  narrowing_step tree covered = record {
    follows = follows_within d (narrowed tree d) refl (le_refl _) (λ p v a. a);
    traced = narrowed_traced log tree d D;
    sound = narrowed_sound log tree d D O S covered;
  }

  -- whatever epoch begins, the device holds and knows what a refiltered one does
  pub beginning_step : (epoch : ℕ) (tree : Tree) → may_begin epoch d ≡ true → IsStep log d (begun epoch tree d)
  beginning_step epoch tree may =
      let T = refiltered_traced log tree d L D in
      let R = refiltered_sound log tree d L D O S in
      record {
        follows = follows_later d (begun epoch tree d) (begun_is_later epoch d may);
        traced = record { made_only = T.made_only; logged = T.logged };
        sound = record {
          held_known = R.held_known;
          closed = R.closed;
          no_older = R.no_older;
          selected = R.selected;
          unselected = R.unselected;
          stored = R.stored;
          newest = R.newest;
        };
      }

  pub taking_step : (c : ModelDevice) → IsTracedDevice log c → IsSoundDevice log c → IsStep log d (pulled d c)
  taking_step c C Q = record {
    follows = follows_within d (pulled d c) refl (le_refl _) (λ p v a. after_old d c p v a);
    traced = pulled_traced log d c L D C;
    sound = pulled_sound log d c L D C O S Q;
  }

-- the device's out keeps what passes a test
module _ (stays : Entry → Bool) (d : ModelDevice) where
  abbrev pub thinned : ModelDevice
  thinned = record d { out = filter stays d.out }

  in_holds_thinned : {e : Entry} → In e (holds thinned) → In e (holds d)
  in_holds_thinned i = elim (in_either d.store i) [
    | inl a ↦ in_left d.out a
    | inr a ↦ in_right d.store (in_passed stays d.out a).0
  ]

  pub thinning_step : (log : List Entry) → IsTracedDevice log d → IsSoundDevice log d → IsStep log d thinned
  thinning_step log D S = record {
    follows = follows_within d thinned refl (le_refl _) (λ p v a. a);
    traced = record { made_only = D.made_only; logged = λ e i. D.logged e (in_holds_thinned i) };
    sound = record {
      held_known = λ e i. S.held_known e (in_holds_thinned i);
      closed = S.closed;
      no_older = λ w v i j. S.no_older w v (in_holds_thinned i) (in_holds_thinned j);
      selected = S.selected;
      unselected = λ e i. S.unselected e (in_passed stays d.out i).0;
      stored = S.stored;
      newest = S.newest;
    };
  }

  pub still_held_thinned : {e : Entry} → In e (holds d) → stays e ≡ true → In e (holds thinned)
  still_held_thinned {e = e} i passed = elim (in_either d.store i) [
    | inl a ↦ in_left thinned.out a
    | inr a ↦ in_right d.store (passes stays a passed)
  ]
