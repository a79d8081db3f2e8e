-- Narrowing, another epoch, settling by a copy and taking from one keep all right.
use Rattle.std.proofs.Common.{◌≡◌, ℕ, ◌<◌, Bool, true, false, not, ◌==◌, ◌&&◌, List, ◌++◌, ◌⊎◌, inl, inr, length, set, refl, sym, ap, ◌∙◌, subst}
use Rattle.std.proofs.lemmas.Bool.{cases_eq, cases_Bool, and_parts, eqb-true, false≢true, not_from_false, false_from_ne_true}
use Rattle.photo_filter_text.specs.Tree.{Tree}
use Rattle.photo_filter_rules.specs.Covers.{covers}
use Rattle.photo_version.specs.Author.{Author, author_at, device_of_author, same_author, is_earlier_epoch}
use Rattle.photo_version.specs.Version.{same_version}
use Rattle.photo_version.proofs.AuthorLemmas.{same_is}
use Rattle.photo_model.specs.Entry.{Entry}
use Rattle.photo_model.specs.Device.{ModelDevice, knows_entry, holds, selects, narrowed}
use Rattle.photo_model.specs.Pull.{taken, handed, pulled}
use Rattle.photo_model.specs.Refiltered.{begun}
use Rattle.fleet_model.specs.Runs.{device_at}
use Rattle.fleet_model.specs.Members.{In}
use Rattle.fleet_model.proofs.Members.{in_left, in_right, any_gives}
use Rattle.fleet_model.proofs.Superseding.{clash, same_version_is}
use Rattle.fleet_model.proofs.Pulling.{coming_is_told, told_unknown, told_held, stored_new, out_new}
use Rattle.fleet_model.proofs.Narrowing.{still_held}
use Rattle.fleet_model.proofs.Refiltering.{held_again}
use Rattle.fleet_model.proofs.SoundPulling.{kept_from_target}
use Rattle.household_model.specs.Replica.{Receipt, receipt_for, may_begin, has_entry_of, receipts_for}
use Rattle.household_model.proofs.Facts.{IsRightReceipt, IsRightCopy, IsUnnamed, IsFreelyHeld, IsCurrent, IsRight}
use Rattle.household_model.proofs.Following.{free_here, free_there}
use Rattle.household_model.proofs.RightSteps.{IsStep, copies_after, receipts_after, step_right, step_keeps}
use Rattle.household_model.proofs.Steps.{begun_is_later, narrowing_step, beginning_step, taking_step, thinned, thinning_step, still_held_thinned}

-- a receipt that a target gains: it is for an entry that was handed over
pub record IsGained (giver : Author) (entries : List Entry) (q : Receipt) : Type 0 where
  pub giver_is : q.giver ≡ giver
  pub entry : Entry
  pub given : In entry entries
  pub is : receipt_for giver entry ≡ q

pub receipt_is : (giver : Author) (q : Receipt) (e : Entry) → q.giver ≡ giver → e.picture ≡ q.picture → e.version ≡ q.version → receipt_for giver e ≡ q
receipt_is giver q e by picture version = λ i. record { giver = sym by i; picture = picture i; version = version i }

pub gained_is : (giver : Author) (entries : List Entry) (q : Receipt) → receipts_for giver entries q ≡ true → IsGained giver entries q
gained_is giver entries q gained =
    let parts = and_parts (same_author q.giver giver) (has_entry_of entries q) gained in
    let r = any_gives (λ e. (e.picture == q.picture) && same_version e.version q.version) entries parts.1 in
    let both = and_parts (r.0.picture == q.picture) (same_version r.0.version q.version) r.2 in
    let by = same_is q.giver giver parts.0 in
    record {
      giver_is = by;
      entry = r.0;
      given = r.1;
      is = receipt_is giver q r.0 by (eqb-true r.0.picture q.picture both.0) (same_version_is r.0.version q.version both.1);
    }

-- what a target is handed the source holds; the target doesn't know it, and holds it afterwards
module _ (t s : ModelDevice) {e : Entry} (i : In e (handed t s)) where
  given_comes : In e (taken t s ++ handed t s)
  given_comes = in_right (taken t s) i

  given_unknown : knows_entry t e ≡ false
  given_unknown = told_unknown t s (coming_is_told t s given_comes)

  given_held : In e (holds s)
  given_held = told_held t s (coming_is_told t s given_comes)

  given_is_held : In e (holds (pulled t s))
  given_is_held = elim (cases_Bool (selects t e)) [
    | inl a ↦ in_left (pulled t s).out (stored_new t s given_comes a)
    | inr a ↦ in_right (pulled t s).store (out_new t s given_comes a)
  ]

module _ (log : List Entry) (devices : List ModelDevice) (IsCopy : ModelDevice → Type 0) (Named : Receipt → Type 0) (H : IsRight log devices IsCopy Named) (k : ℕ) (h : k < length devices) where
  abbrev here_now : ModelDevice
  here_now = device_at devices k

  pub narrowing_right : (tree : Tree) → covers here_now.tree tree ≡ true → IsRight log (set devices k (narrowed tree here_now)) IsCopy Named
  narrowing_right tree covered =
      step_keeps log devices IsCopy Named H k (narrowed tree here_now) h
      (narrowing_step log here_now H.fleet.traced.log_is H.fleet.orderly (H.fleet.traced.each k h) (H.fleet.each k h) tree covered)
      (λ e i unnamed. (still_held tree here_now i, unnamed))

  -- no receipt names the author that begins
  pub beginning_right : (epoch : ℕ) (tree : Tree) → may_begin epoch here_now ≡ true → IsRight log (set devices k (begun epoch tree here_now)) IsCopy Named
  beginning_right epoch tree may =
      step_keeps log devices IsCopy Named H k (begun epoch tree here_now) h
      (beginning_step log here_now H.fleet.traced.log_is H.fleet.orderly (H.fleet.traced.each k h) (H.fleet.each k h) epoch tree may)
      (λ e i unnamed. (
        held_again tree here_now i,
        λ named. absurd (false≢true (sym ((H.receipts (receipt_for (author_at (device_of_author here_now.author) epoch) e) named).begun k h) ∙ begun_is_later epoch here_now may)),
      ))

  -- the device gives up only what a receipt names
  pub settling_right : (drops : Entry → Bool) → ((e : Entry) → drops e ≡ true → Named (receipt_for here_now.author e)) → IsRight log (set devices k (thinned (λ e. not (drops e)) here_now)) IsCopy Named
  settling_right drops receipted =
      step_keeps log devices IsCopy Named H k (thinned (λ e. not (drops e)) here_now) h
      (thinning_step (λ e. not (drops e)) here_now log (H.fleet.traced.each k h) (H.fleet.each k h))
      (λ e i unnamed. (still_held_thinned (λ e. not (drops e)) here_now i (not_from_false (drops e) (false_from_ne_true _ (λ dropped. unnamed (receipted e dropped)))), unnamed))

  -- the device takes from the copy c, which may even be one of its own
  module _ (c : ModelDevice) (is : IsCopy c) (NamedNow : Receipt → Type 0) (old_or_new : (q : Receipt) → NamedNow q → Named q ⊎ (receipts_for c.author (handed here_now c) q ≡ true)) where
    C : IsRightCopy log devices c
    C = H.copies c is

    step : IsStep log here_now (pulled here_now c)
    step = taking_step log here_now H.fleet.traced.log_is H.fleet.orderly (H.fleet.traced.each k h) (H.fleet.each k h) c C.traced C.sound

    given_logged : {e : Entry} → In e (handed here_now c) → In e log
    given_logged {e = e} i = C.traced.logged e (given_held here_now c i)

    -- no new receipt names the taker: what a copy of its own epoch holds, it knows
    not_by_taker : (q : Receipt) → receipts_for c.author (handed here_now c) q ≡ true → q.giver ≡ here_now.author → ⊥
    not_by_taker q gained by =
        let new = gained_is c.author (handed here_now c) q gained in
        clash (knows_entry here_now new.entry)
        (C.grown k h (sym by ∙ new.giver_is) new.entry.picture new.entry.version (C.sound.held_known new.entry (given_held here_now c new.given)))
        (given_unknown here_now c new.given)

    receipts_right : (q : Receipt) → NamedNow q → IsRightReceipt log (set devices k (pulled here_now c)) q
    receipts_right q named = elim (old_or_new q named) [
      | inl old ↦ receipts_after log devices IsCopy Named H k (pulled here_now c) h step q old
      | inr gained ↦
          let new = gained_is c.author (handed here_now c) q gained in
          let N = copies_after log devices IsCopy Named H k (pulled here_now c) h step c is in
          record {
            entry = new.entry;
            logged = given_logged new.given;
            is = ap (λ (a : Author). receipt_for a new.entry) new.giver_is ∙ new.is;
            begun = λ j i. ap (is_earlier_epoch (device_at (set devices k (pulled here_now c)) j).author) new.giver_is ∙ N.begun j i;
            knew = λ j i a. N.grown j i (a ∙ new.giver_is) new.entry.picture new.entry.version (C.sound.held_known new.entry (given_held here_now c new.given));
          }
    ]

    -- an entry of the log that a receipt is for
    is_one : (e g : Entry) (a b : Author) → In e log → In g log → receipt_for a e ≡ receipt_for b g → e ≡ g
    is_one e g a b i j same = H.fleet.traced.log_is.distinct e g i j (ap (λ (q : Receipt). q.version) same)

    -- the taker holds what it was handed, and no receipt names it for that
    free_given : (e : Entry) → In e log → In e (handed here_now c) → IsUnnamed NamedNow (pulled here_now c) e
    free_given e logged given named = elim (old_or_new (receipt_for here_now.author e) named) [
      | inl old ↦
          let R = H.receipts (receipt_for here_now.author e) old in
          let entry_is : R.entry ≡ e = is_one R.entry e here_now.author here_now.author R.logged logged R.is in
          clash (knows_entry here_now e) (subst (λ (x : Entry). knows_entry here_now x ≡ true) entry_is (R.knew k h refl)) (given_unknown here_now c given)
      | inr gained ↦ not_by_taker (receipt_for here_now.author e) gained refl
    ]

    free_taken : (e : Entry) → In e log → IsCurrent log e → IsFreelyHeld (set devices k (pulled here_now c)) NamedNow e
    free_taken e i none =
        let m = H.free e i none in
        let q = receipt_for (device_at devices m.place).author e in
        elim (cases_eq m.place k) [
          | inl here ↦ free_here devices k (pulled here_now c) h NamedNow e
              (kept_from_target log here_now c H.fleet.traced.log_is (H.fleet.traced.each k h) C.traced H.fleet.orderly (H.fleet.each k h) C.sound e
              (subst (λ (n : ℕ). In e (holds (device_at devices n))) here m.held) i none)
              (λ named. elim (old_or_new (receipt_for here_now.author e) named) [
                | inl old ↦ subst (λ (n : ℕ). IsUnnamed Named (device_at devices n) e) here m.unnamed old
                | inr gained ↦ not_by_taker (receipt_for here_now.author e) gained refl
              ])
          | inr elsewhere ↦ elim (cases_Bool (receipts_for c.author (handed here_now c) q)) [
            | inl gained ↦
                let new = gained_is c.author (handed here_now c) q gained in
                let entry_is : new.entry ≡ e = is_one new.entry e c.author q.giver (given_logged new.given) i new.is in
                let given : In e (handed here_now c) = subst (λ (x : Entry). In x (handed here_now c)) entry_is new.given in
                free_here devices k (pulled here_now c) h NamedNow e (given_is_held here_now c given) (free_given e i given)
            | inr not_gained ↦ free_there devices k (pulled here_now c) h NamedNow e m.place m.within elsewhere m.held
                (λ named. elim (old_or_new q named) [
                  | inl old ↦ m.unnamed old
                  | inr gained ↦ clash (receipts_for c.author (handed here_now c) q) gained not_gained
                ])
          ]
        ]

    pub taking_right : IsRight log (set devices k (pulled here_now c)) IsCopy NamedNow
    taking_right = step_right log devices IsCopy Named H k (pulled here_now c) h step NamedNow receipts_right free_taken
