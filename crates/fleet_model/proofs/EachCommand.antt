-- A fact that each command keeps holds after every run.
use Rattle.std.proofs.Common.{◌≡◌, ℕ, zero, suc, ◌+◌, ◌<◌, ◌≤◌, Bool, true, false, if◌then◌else◌, List, [], ◌∷◌, ◌++◌, inl, inr, length, set, refl, sym, ap, ◌∙◌, subst, subst₂, add-one, arith}
use Rattle.std.specs.Prelude.{Some, None, IfSome, slice_get, fold}
use Rattle.std.specs.List.{AllByRecursion}
use Rattle.std.proofs.lemmas.List.{append-nil, set-get_or}
use Rattle.std.proofs.lemmas.List.Sums.{fold-append}
use Rattle.std.proofs.lemmas.Option.{slice_get_cases, slice_get_within, get_or_from_slice_get}
use Rattle.photo_record.specs.declared.record.Record.{Record}
use Rattle.photo_record.specs.declared.record.Record.TheVariants.{Removed}
use Rattle.photo_filter_text.specs.Tree.{Tree, All}
use Rattle.photo_filter_rules.specs.Covers.{covers}
use Rattle.photo_version.specs.Author.{author, epoch_of_author}
use Rattle.photo_model.specs.Entry.{Entry}
use Rattle.photo_model.specs.Device.{ModelDevice, opening, new_entry, made, narrowed, moved, is_held}
use Rattle.photo_model.specs.Refiltered.{refiltered}
use Rattle.photo_model.specs.Pull.{pulled, handed_over}
use Rattle.fleet_model.specs.declared.command.Command.{Command}
use Rattle.fleet_model.specs.declared.command.Command.TheVariants as command
use Rattle.fleet_model.specs.Contents.{Contents, IsWithin, IsScript, record_of}
use Rattle.fleet_model.specs.Answers.{Exactly, NotHeld, NotNarrower, Narrowed}
use Rattle.fleet_model.specs.Runs.{device_at, Fleet, Effect, making, telling, changing, narrowing, opening_from, opening_fleet, after_command, step, run_in_order, numbers_to}
use Rattle.fleet_model.specs.Steps.{HasMadeAtMost}
use Rattle.fleet_model.proofs.Effects.{all_at, all_are}
use Rattle.fleet_model.proofs.Places.{two_set}
use Rattle.fleet_model.proofs.Runs.{long_after, one_later, makes_one_more, opening_at_most}

-- a fact on a log and its devices that each step keeps, provided that the records of new entries pass the test `Fits`
pub record IsKept (Fits : Record → Type 0) (P : List Entry → List ModelDevice → Type 0) : Type 0 where
  pub removed : Fits Removed
  pub making : (log : List Entry) (ds : List ModelDevice) (k p : ℕ) (r : Record) → P log ds → k < length ds → Fits r → P (log ++ new_entry (device_at ds k) p r ∷ []) (set ds k (made (device_at ds k) p r))
  pub narrowing : (log : List Entry) (ds : List ModelDevice) (k : ℕ) (tree : Tree) → P log ds → k < length ds → covers (device_at ds k).tree tree ≡ true → P log (set ds k (narrowed tree (device_at ds k)))
  pub refiltering : (log : List Entry) (ds : List ModelDevice) (k : ℕ) (tree : Tree) → P log ds → k < length ds → epoch_of_author (device_at ds k).author < 4294967295 → P log (set ds k (refiltered tree (device_at ds k)))
  pub pulling : (log : List Entry) (ds : List ModelDevice) (t s : ℕ) → P log ds → t < length ds → s < length ds → (t ≡ s → ⊥) → P log (two_set ds t (pulled (device_at ds t) (device_at ds s)) s (handed_over (device_at ds t) (device_at ds s)))

-- the command's record passes, if it has one
abbrev pub FitsAll : (Record → Type 0) → Command → Type 0
FitsAll Fits c = IfSome (record_of c) Fits

-- the fact holds; there are `count` devices; each made at most `most` versions in its epoch, and its epoch is at most `most`
pub record IsAfter (P : List Entry → List ModelDevice → Type 0) (count most : ℕ) (log : List Entry) (devices : List ModelDevice) : Type 0 where
  pub fact : P log devices
  pub long : length devices ≡ count
  pub few : AllByRecursion (HasMadeAtMost most) devices

pub all_got : {X : Type 0} (Q : X → Type 0) (xs : List X) (k : ℕ) (x : X) → AllByRecursion Q xs → slice_get xs k ≡ Some x → Q x
all_got Q xs k x all here = subst Q (get_or_from_slice_get xs k x x here) (all_at Q xs k x all (slice_get_within xs k x here))

-- the effect of a narrowing that takes place
abbrev pub narrowed_effect : ModelDevice → Tree → Effect
narrowed_effect d tree = record { first = narrowed tree d; second = None; report = Exactly (Narrowed (moved tree d)); entries = [] }

-- what a step does where the script has a command of that number, and where it has none
pub stepped : (script : Contents) (fleet : Fleet) (n : ℕ) (c : Command) → slice_get script.commands n ≡ Some c → step script fleet (suc n) ≡ after_command fleet (suc n) c
stepped script fleet n c here = rw here refl

pub not_stepped : (script : Contents) (fleet : Fleet) (n : ℕ) → slice_get script.commands n ≡ None → step script fleet (suc n) ≡ fleet
not_stepped script fleet n past = rw past refl

pub length_opening : (n : ℕ) (filters : List Tree) → length (opening_from n filters) ≡ length filters
length_opening n [] = refl
length_opening n (tree ∷ filters) = ap suc (length_opening (n + 1) filters)

module _ (Fits : Record → Type 0) (P : List Entry → List ModelDevice → Type 0) (K : IsKept Fits P) where
  by_telling : (log : List Entry) (ds : List ModelDevice) (k : ℕ) → P log ds → P (log ++ []) (set ds k (device_at ds k))
  by_telling log ds k old = subst₂ P (sym (append-nil log)) (sym (set-get_or ds k (opening (author k) All))) old

  -- for one device: either of two effects keeps the fact
  by_either : (log : List Entry) (ds : List ModelDevice) (k : ℕ) (x y : Effect) (b : Bool)
      → (b ≡ true → P (log ++ x.entries) (set ds k x.first))
      → P (log ++ y.entries) (set ds k y.first)
      → P (log ++ (if b then x else y).entries) (set ds k (if b then x else y).first)
  by_either log ds k x y true done not_done = done refl
  by_either log ds k x y false done not_done = not_done

  by_changing : (log : List Entry) (ds : List ModelDevice) (k p : ℕ) (r : Record) → P log ds → k < length ds → Fits r → P (log ++ (changing (device_at ds k) None p r).entries) (set ds k (changing (device_at ds k) None p r).first)
  by_changing log ds k p r old h fits =
      by_either log ds k (making (device_at ds k) None p r) (telling (device_at ds k) None (Exactly NotHeld)) (is_held (device_at ds k) p)
      (λ _. K.making log ds k p r old h fits) (by_telling log ds k old)

  by_narrowing : (log : List Entry) (ds : List ModelDevice) (k : ℕ) (tree : Tree) → P log ds → k < length ds → P (log ++ (narrowing (device_at ds k) None tree).entries) (set ds k (narrowing (device_at ds k) None tree).first)
  by_narrowing log ds k tree old h =
      let d = device_at ds k in
      by_either log ds k (narrowed_effect d tree) (telling d None (Exactly NotNarrower)) (covers d.tree tree)
      (λ e. subst (λ (l : List Entry). P l (set ds k (narrowed tree d))) (sym (append-nil log)) (K.narrowing log ds k tree old h e))
      (by_telling log ds k old)

  by_refiltering : (log : List Entry) (ds : List ModelDevice) (k n : ℕ) (tree : Tree) → P log ds → k < length ds → n < 4_294_967_295 → AllByRecursion (HasMadeAtMost n) ds → P (log ++ []) (set ds k (refiltered tree (device_at ds k)))
  by_refiltering log ds k n tree old h below few =
      let here : HasMadeAtMost n (device_at ds k) = all_at (HasMadeAtMost n) ds k (opening (author k) All) few h in
      let begun : epoch_of_author (device_at ds k).author ≤ n = here.begun in
      subst (λ (l : List Entry). P l (set ds k (refiltered tree (device_at ds k)))) (sym (append-nil log)) (K.refiltering log ds k tree old h (omega (arith, below, begun)))

  by_pulling : (log : List Entry) (ds : List ModelDevice) (t s : ℕ) → P log ds → t < length ds → s < length ds → (t ≡ s → ⊥) → P (log ++ []) (two_set ds t (pulled (device_at ds t) (device_at ds s)) s (handed_over (device_at ds t) (device_at ds s)))
  by_pulling log ds t s old h k apart =
      subst (λ (l : List Entry). P l (two_set ds t (pulled (device_at ds t) (device_at ds s)) s (handed_over (device_at ds t) (device_at ds s)))) (sym (append-nil log)) (K.pulling log ds t s old h k apart)

  -- a preview sets both of its devices to themselves
  by_previewing : (log : List Entry) (ds : List ModelDevice) (t s : ℕ) → P log ds → P (log ++ []) (two_set ds t (device_at ds t) s (device_at ds s))
  by_previewing log ds t s old =
      let first : set ds t (device_at ds t) ≡ ds = set-get_or ds t (opening (author t) All) in
      let both : two_set ds t (device_at ds t) s (device_at ds s) ≡ ds = ap (λ (l : List ModelDevice). set l s (device_at ds s)) first ∙ set-get_or ds s (opening (author s) All) in
      subst₂ P (sym (append-nil log)) (sym both) old

  keeps : (fleet : Fleet) (number : ℕ) (c : Command) (n : ℕ) → P fleet.log fleet.devices → IsWithin (length fleet.devices) c → FitsAll Fits c → n < 4_294_967_295 → AllByRecursion (HasMadeAtMost n) fleet.devices
      → P (after_command fleet number c).log (after_command fleet number c).devices
  keeps fleet number (command.New k p r) n old w fits below few = K.making fleet.log fleet.devices k p r old w.0 fits
  keeps fleet number (command.Edit k p r) n old w fits below few = by_changing fleet.log fleet.devices k p r old w.0 fits
  keeps fleet number (command.Remove k p) n old w fits below few = by_changing fleet.log fleet.devices k p Removed old w.0 K.removed
  keeps fleet number (command.Pull t s) n old w fits below few = by_pulling fleet.log fleet.devices t s old w.0 w.1.0 (λ e. w.1.1 (sym e))
  keeps fleet number (command.Narrow k tree) n old w fits below few = by_narrowing fleet.log fleet.devices k tree old w.0
  keeps fleet number (command.Refilter k tree) n old w fits below few = by_refiltering fleet.log fleet.devices k n tree old w.0 below few
  keeps fleet number (command.Preview t s) n old w fits below few = by_previewing fleet.log fleet.devices t s old
  keeps fleet number (command.List k) n old w fits below few = by_telling fleet.log fleet.devices k old
  keeps fleet number (command.Conflicts k) n old w fits below few = by_telling fleet.log fleet.devices k old
  keeps fleet number (command.Knowledge k) n old w fits below few = by_telling fleet.log fleet.devices k old
  keeps fleet number (command.Knows k p v) n old w fits below few = by_telling fleet.log fleet.devices k old

  pub by_command : (fleet : Fleet) (number : ℕ) (c : Command) (n : ℕ) → P fleet.log fleet.devices → IsWithin (length fleet.devices) c → FitsAll Fits c → n < 4_294_967_295 → AllByRecursion (HasMadeAtMost n) fleet.devices
      → IsAfter P (length fleet.devices) (n + 1) (after_command fleet number c).log (after_command fleet number c).devices
  by_command fleet number c n old within fits below few = record {
    fact = keeps fleet number c n old within fits below few;
    long = long_after c fleet.devices;
    few = makes_one_more fleet.devices c n within few;
  }

  module _ (script : Contents) (is : IsScript script) (fits : AllByRecursion (FitsAll Fits) script.commands) (first : P [] (opening_from 0 script.filters)) where
    abbrev IsAfterThem : ℕ → Fleet → Type 0
    IsAfterThem most fleet = IsAfter P (length script.names) most fleet.log fleet.devices

    opened : IsAfterThem 0 (opening_fleet script)
    opened = record { fact = first; long = length_opening 0 script.filters ∙ is.filtered; few = opening_at_most script.filters 0 }

    -- one step, whether or not the script has a command of that number
    by_step : (n most : ℕ) (fleet : Fleet) → (n < length script.commands → most < 4_294_967_295) → IsAfterThem most fleet → IsAfterThem (most + 1) (step script fleet (suc n))
    by_step n most fleet below old = elim (slice_get_cases script.commands n).1 [
      | inl found ↦
          let within : IsWithin (length fleet.devices) found.0 = subst (λ (m : ℕ). IsWithin m found.0) (sym old.long) (all_got (IsWithin (length script.names)) script.commands n found.0 is.known found.2) in
          let done = by_command fleet (suc n) found.0 most old.fact within (all_got (FitsAll Fits) script.commands n found.0 fits found.2) (below found.1) old.few in
          subst (IsAfterThem (most + 1)) (sym (stepped script fleet n found.0 found.2)) (record { fact = done.fact; long = done.long ∙ old.long; few = done.few })
      | inr past ↦ subst (IsAfterThem (most + 1)) (sym (not_stepped script fleet n past.1))
          (record { fact = old.fact; long = old.long; few = all_are (HasMadeAtMost most) (HasMadeAtMost (most + 1)) fleet.devices (one_later most) old.few })
    ]

    pub after_each : (n : ℕ) → IsAfterThem n (run_in_order script (numbers_to n))
    after_each zero = opened
    after_each (suc n) =
        let few = is.commands in
        subst (IsAfterThem (suc n)) (sym (fold-append (step script) (opening_fleet script) (numbers_to n) (suc n ∷ [])))
        (subst (λ (m : ℕ). IsAfterThem m (step script (run_in_order script (numbers_to n)) (suc n))) (add-one n)
        (by_step n n (run_in_order script (numbers_to n)) (λ below. omega (arith, few, below)) (after_each n)))

    -- any numbers in any order
    after_from : (numbers : List ℕ) (most : ℕ) (fleet : Fleet) → most + length numbers ≤ 4_294_967_295 → IsAfterThem most fleet → IsAfterThem (most + length numbers) (fold (step script) fleet numbers)
    after_from [] most fleet below old = subst (λ (m : ℕ). IsAfterThem m fleet) (omega arith) old
    after_from (zero ∷ more) most fleet below old =
        let rest = after_from more (most + 1) fleet (omega (arith, below)) (record { fact = old.fact; long = old.long; few = all_are (HasMadeAtMost most) (HasMadeAtMost (most + 1)) fleet.devices (one_later most) old.few }) in
        subst (λ (m : ℕ). IsAfterThem m (fold (step script) fleet more)) (omega arith) rest
    after_from (suc n ∷ more) most fleet below old =
        let rest = after_from more (most + 1) (step script fleet (suc n)) (omega (arith, below)) (by_step n most fleet (λ _. omega (arith, below)) old) in
        subst (λ (m : ℕ). IsAfterThem m (fold (step script) (step script fleet (suc n)) more)) (omega arith) rest

    pub after_all_of : (numbers : List ℕ) → length numbers ≤ 4_294_967_295 → IsAfterThem (length numbers) (run_in_order script numbers)
    after_all_of numbers below =
        let all = after_from numbers 0 (opening_fleet script) (omega (arith, below)) opened in
        subst (λ (m : ℕ). IsAfterThem m (run_in_order script numbers)) (omega arith) all
