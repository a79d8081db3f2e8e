-- Two replicas do a script's pull by two copies, and refiltering begins the next epoch.
use Rattle.std.proofs.Common.{◌≡◌, Bool, true, false, not, ◌||◌, ◌&&◌, ◌==◌, List, [], ◌∷◌, inl, inr, length, filter, refl, sym, ap, ◌∙◌, cond}
use Rattle.std.proofs.lemmas.Bool.{cases_Bool, and_from, and_right, or_right, eq-eqb, not-true, not_from_false, false_from_ne_true}
use Rattle.photo_version.specs.Author.{Author, same_author, is_earlier_epoch}
use Rattle.photo_version.specs.Version.{same_version}
use Rattle.photo_version.proofs.AuthorLemmas.{same_from, next_parts}
use Rattle.photo_model.specs.Entry.{Entry}
use Rattle.photo_model.specs.Device.{ModelDevice, known, knows_entry, holds}
use Rattle.photo_model.specs.Refiltered.{refiltered}
use Rattle.photo_model.specs.Pull.{handed, pulled, counts_of}
use Rattle.fleet_model.specs.Members.{In, here, there}
use Rattle.fleet_model.proofs.Members.{in_right, in_passed, passes, any_from}
use Rattle.fleet_model.proofs.Superseding.{clash, is_same_version}
use Rattle.fleet_model.proofs.Epochs.{not_later}
use Rattle.household_model.specs.Replica.{Receipt, Replica, receipt_for, is_receipted, after_settling, count_settled, has_entry_of, receipts_for, is_obsolete, after_pulling}
use Rattle.household_model.specs.Laws.{HasNoneFrom, CopiesDoScriptPull, RefilteringBeginsTheNext}
use Rattle.household_model.proofs.RightChanges.{gained_is}

-- two tests that agree on a list's members pass the same members
same_passed : {X : Type 0} (p q : X → Bool) (xs : List X) → ((x : X) → In x xs → p x ≡ q x) → filter p xs ≡ filter q xs
same_passed p q [] same = refl
same_passed p q (x ∷ xs) same = let rest = same_passed p q xs (λ y i. same y (there i)) in λ i. cond (same x (here refl) i) (x ∷ rest i) (rest i)

all_pass : {X : Type 0} (xs : List X) → filter (λ (x : X). true) xs ≡ xs
all_pass [] = refl
all_pass (x ∷ xs) = ap (λ (ys : List _). x ∷ ys) (all_pass xs)

none_pass : {X : Type 0} (xs : List X) → length (filter (λ (x : X). false) xs) ≡ 0
none_pass [] = refl
none_pass (x ∷ xs) = none_pass xs

-- an entry's receipt has the entry's picture and version
in_has_entry : (a : Author) {e : Entry} {entries : List Entry} → In e entries → has_entry_of entries (receipt_for a e) ≡ true
in_has_entry a {e = e} i =
    any_from (λ (x : Entry). (x.picture == e.picture) && same_version x.version e.version) i
    (and_from (e.picture == e.picture) (same_version e.version e.version) (eq-eqb e.picture e.picture refl) (is_same_version e.version e.version refl))

gained_and_kept : (had gained obsolete : Bool) → gained ≡ true → obsolete ≡ false → ((had || gained) && not obsolete) ≡ true
gained_and_kept had gained obsolete g o = and_from (had || gained) (not obsolete) (or_right had gained g) (not_from_false obsolete o)

neither : (had gained obsolete : Bool) → had ≡ false → gained ≡ false → ((had || gained) && not obsolete) ≡ false
neither had gained obsolete h g = rw (h, g) refl

not_obsolete : (earlier same knows held : Bool) → earlier ≡ false → held ≡ true → (earlier || (same && (knows && not held))) ≡ false
not_obsolete earlier same knows held e h = rw (e, h, and_right knows false refl, and_right same false refl) refl

-- a replica settles nothing by one that has no receipt from its author
module _ (r copy : Replica) (none : HasNoneFrom r.device.author copy) where
  settles_nothing : (after_settling r copy).device ≡ r.device
  settles_nothing = ap (λ (out : List Entry). record r.device { out = out })
      (same_passed (λ e. not (is_receipted r.device copy e)) (λ _. true) r.device.out (λ e _. not_from_false _ (none (receipt_for r.device.author e) refl)) ∙ all_pass r.device.out)

  settles_none : count_settled r copy ≡ 0
  settles_none = ap (λ (es : List Entry). length es) (same_passed (is_receipted r.device copy) (λ _. false) r.device.out (λ e _. none (receipt_for r.device.author e) refl)) ∙ none_pass r.device.out

module _ (t s : Replica) (none : HasNoneFrom s.device.author t) where
  -- no entry that the target knows is receipted by what it gained
  not_gained : (e : Entry) → knows_entry t.device e ≡ true → receipts_for s.device.author (handed t.device s.device) (receipt_for s.device.author e) ≡ false
  not_gained e knows = false_from_ne_true _ (λ gained.
      let new = gained_is s.device.author (handed t.device s.device) (receipt_for s.device.author e) gained in
      let unknown = (in_passed (λ (x : Entry). not (knows_entry t.device x)) s.device.out new.given).1 in
      clash (knows_entry t.device e) knows (sym (ap (λ (q : Receipt). known t.device q.picture q.version) new.is) ∙ not-true (knows_entry t.device new.entry) unknown))

  -- after its pull the target has receipts for just what it didn't know of the source's out
  receipted_is_unknown : (e : Entry) → In e s.device.out → is_receipted s.device (after_pulling t s) e ≡ not (knows_entry t.device e)
  receipted_is_unknown e i =
      let a = s.device.author in
      let q = receipt_for a e in
      elim (cases_Bool (knows_entry t.device e)) [
        | inl knows ↦ neither (t.receipts q) (receipts_for a (handed t.device s.device) q) (is_obsolete s.device q) (none q refl) (not_gained e knows) ∙ sym (ap not knows)
        | inr unknown ↦
            gained_and_kept (t.receipts q) (receipts_for a (handed t.device s.device) q) (is_obsolete s.device q)
            (and_from (same_author a a) (has_entry_of (handed t.device s.device) q) (same_from a a refl)
            (in_has_entry a (passes (λ (x : Entry). not (knows_entry t.device x)) i (not_from_false (knows_entry t.device e) unknown))))
            (not_obsolete (is_earlier_epoch a a) (same_author a a) (known s.device e.picture e.version) (has_entry_of (holds s.device) q) (not_later a) (in_has_entry a (in_right s.device.store i)))
            ∙ sym (ap not unknown)
      ]

not_not : (b : Bool) → not (not b) ≡ b
not_not true = refl
not_not false = refl

pub copies_do_script_pull : CopiesDoScriptPull
copies_do_script_pull t s from_source from_target = record {
  target = ap (λ (d : ModelDevice). pulled d s.device) (settles_nothing t s from_target);
  source = ap (λ (out : List Entry). record s.device { out = out })
      (same_passed (λ e. not (is_receipted s.device (after_pulling t s) e)) (knows_entry t.device) s.device.out
      (λ e i. ap not (receipted_is_unknown t s from_source e i) ∙ not_not (knows_entry t.device e)));
  counts = ap (λ (d : ModelDevice). counts_of d s.device) (settles_nothing t s from_target);
  by_target = settles_none t s from_target;
  by_source = ap (λ (es : List Entry). length es) (same_passed (is_receipted s.device (after_pulling t s)) (λ e. not (knows_entry t.device e)) s.device.out (receipted_is_unknown t s from_source));
}

pub refiltering_begins_the_next : RefilteringBeginsTheNext
refiltering_begins_the_next tree d h = ap (λ (a : Author). record (refiltered tree d) { author = a }) (sym (next_parts d.author h))
