-- What a sequence of commands leads to, by induction.
use Rattle.std.proofs.Common.{◌≡◌, ℕ, zero, suc, ◌+◌, ◌<◌, ◌≤◌, List, [], ◌∷◌, ◌++◌, inl, inr, length, take, refl, sym, ap, ◌∙◌, subst, subst₂, add-one, le_refl, length-append, arith}
use Rattle.std.specs.Prelude.{fold}
use Rattle.std.specs.List.{AllZip, AllByRecursion}
use Rattle.std.proofs.lemmas.List.{take_more, take_all}
use Rattle.std.proofs.lemmas.List.Sums.{fold-append}
use Rattle.std.proofs.lemmas.Option.{slice_get_cases}
use Rattle.photo_record.specs.declared.record.Record.{Record}
use Rattle.photo_filter_text.specs.Tree.{Tree}
use Rattle.photo_filter_rules.specs.Matching.{IsInRange}
use Rattle.photo_device.specs.declared.held.Held.{Held}
use Rattle.photo_model.specs.Entry.{Entry}
use Rattle.photo_device.specs.Held.{entries_of}
use Rattle.photo_model.specs.Device.{ModelDevice}
use Rattle.photo_device.specs.Device.{Kept, Shows}
use Rattle.fleet_model.specs.declared.command.Command.{Command}
use Rattle.fleet_model.specs.Contents.{Contents, contents, IsWithin}
use Rattle.fleet_model.specs.Runs.{Fleet, opening_from, opening_fleet, after_command, step, run_in_order, numbers_to}
use Rattle.fleet_model.specs.Steps.{effect_on, devices_after, HasMadeAtMost}
use Rattle.fleet_steps.specs.Between.{AreReady, AreSettled, HaveRoom}
use Rattle.fleet_model.proofs.Zipped.{zip_long}
use Rattle.fleet_model.proofs.Effects.{all_push}
use Rattle.fleet_model.proofs.Runs.{opening_at_most}
use Rattle.fleet_steps.proofs.Runs.{have_room}
use Rattle.fleet_model.proofs.EachCommand.{IsKept, FitsAll, IsAfter, length_opening, stepped, by_command}
use Rattle.fleet_model.specs.Ready.{IsReady}
use Rattle.fleet_model.proofs.ReadyRuns.{all_fit, opening_ready, ready_kept}
use Rattle.fleet_model.proofs.SoundFacts.{IsSoundFleet}
use Rattle.fleet_model.proofs.SoundRuns.{opening_sound, sound_kept, sound_and_kept}
use Rattle.live_fleet.specs.Fleets.{KeptFleet, ShowsFleet, AreAlike, RunsGrowByCommands, after_commands, CameAbout, HasSoundHistory}

-- fleets that are alike stay alike after one more command, whatever its number
pub alike_after : (f g : Fleet) (j k : ℕ) (c : Command) → AreAlike f g → AreAlike (after_command f j c) (after_command g k c)
alike_after f g j k c same = record {
  devices = ap (λ ds. devices_after ds c) same.devices;
  log = λ i. same.log i ++ (effect_on (same.devices i) c).entries;
}

-- the step of a run whose commands all have number 0, so their reports don't matter
abbrev pub ran : Fleet → Command → Fleet
ran fleet c = after_command fleet 0 c

abbrev pub opened : List Tree → Fleet
opened filters = opening_fleet (contents [] filters [])

-- the run of the first n commands
begins : (filters : List Tree) (commands : List Command) (n : ℕ) → n ≤ length commands → AreAlike (run_in_order (contents [] filters commands) (numbers_to n)) (fold ran (opened filters) (take n commands))
begins filters commands zero few = record { devices = refl; log = refl }
begins filters commands (suc n) few = elim (slice_get_cases commands n).1 [
  | inl found ↦
      let script : Contents = contents [] filters commands in
      let c = found.0 in
      let before = run_in_order script (numbers_to n) in
      let folded = fold ran (opened filters) (take n commands) in
      let left : run_in_order script (numbers_to (suc n)) ≡ after_command before (suc n) c = fold-append (step script) (opening_fleet script) (numbers_to n) (suc n ∷ []) ∙ stepped script before n c found.2 in
      let grown : take (suc n) commands ≡ take n commands ++ c ∷ [] = ap (λ (m : ℕ). take m commands) (sym (add-one n)) ∙ take_more commands n c found.1 ∙ ap (λ x. take n commands ++ x ∷ []) found.3 in
      let right : fold ran (opened filters) (take (suc n) commands) ≡ after_command folded 0 c = ap (fold ran (opened filters)) grown ∙ fold-append ran (opened filters) (take n commands) (c ∷ []) in
      let both = alike_after before folded (suc n) 0 c (begins filters commands n (omega arith)) in
      record {
        devices = ap (λ (f : Fleet). f.devices) left ∙ both.devices ∙ sym (ap (λ (f : Fleet). f.devices) right);
        log = ap (λ (f : Fleet). f.log) left ∙ both.log ∙ sym (ap (λ (f : Fleet). f.log) right);
      }
  | inr past ↦ let far = past.0 in absurd (omega arith)
]

pub is_folded : (filters : List Tree) (commands : List Command) → AreAlike (after_commands filters commands) (fold ran (opened filters) commands)
is_folded filters commands =
    subst (λ (cs : List Command). AreAlike (after_commands filters commands) (fold ran (opened filters) cs)) (take_all (length commands) commands (le_refl _)) (begins filters commands (length commands) (le_refl _))

-- the run with one more command
pub one_later : RunsGrowByCommands
one_later filters commands k c =
    let all = is_folded filters (commands ++ c ∷ []) in
    let last : fold ran (opened filters) (commands ++ c ∷ []) ≡ after_command (fold ran (opened filters) commands) 0 c = fold-append ran (opened filters) commands (c ∷ []) in
    let same = alike_after (after_commands filters commands) (fold ran (opened filters) commands) k 0 c (is_folded filters commands) in
    record {
      devices = all.devices ∙ ap (λ (f : Fleet). f.devices) last ∙ sym same.devices;
      log = all.log ∙ ap (λ (f : Fleet). f.log) last ∙ sym same.log;
    }

-- what each step keeps while there are epochs to begin
module _ (Fits : Record → Type 0) (P : List Entry → List ModelDevice → Type 0) (K : IsKept Fits P) where
  kept_along : (fleet : Fleet) (n : ℕ) (commands : List Command) → P fleet.log fleet.devices → n + length commands ≤ 4_294_967_295 → AllByRecursion (HasMadeAtMost n) fleet.devices
      → AllByRecursion (IsWithin (length fleet.devices)) commands → AllByRecursion (FitsAll Fits) commands
      → IsAfter P (length fleet.devices) (n + length commands) (fold ran fleet commands).log (fold ran fleet commands).devices
  kept_along fleet n [] old few most within fits = record {
    fact = old;
    long = refl;
    few = subst (λ (j : ℕ). AllByRecursion (HasMadeAtMost j) fleet.devices) (omega arith) most;
  }
  kept_along fleet n (c ∷ commands) old few most within fits =
      let done = by_command Fits P K fleet 0 c n old within.0 fits.0 (omega arith) most in
      let rest = kept_along (ran fleet c) (n + 1) commands done.fact (omega arith) done.few (subst (λ (m : ℕ). AllByRecursion (IsWithin m) commands) (sym done.long) within.1) fits.1 in
      record {
        fact = rest.fact;
        long = rest.long ∙ done.long;
        few = subst (λ (j : ℕ). AllByRecursion (HasMadeAtMost j) (fold ran (ran fleet c) commands).devices) (omega arith) rest.few;
      }

pub within_opened : (filters : List Tree) (commands : List Command) → AllByRecursion (IsWithin (length filters)) commands → AllByRecursion (IsWithin (length (opening_from 0 filters))) commands
within_opened filters commands within = subst (λ (n : ℕ). AllByRecursion (IsWithin n) commands) (sym (length_opening 0 filters)) within

-- after any commands every device is sound, and none has made more versions or begun more epochs than commands have run
pub sound_after : (filters : List Tree) (commands : List Command) → length commands ≤ 4_294_967_295 → AllByRecursion (IsWithin (length filters)) commands → AllByRecursion (FitsAll IsInRange) commands
    → IsAfter IsSoundFleet (length filters) (length commands) (after_commands filters commands).log (after_commands filters commands).devices
sound_after filters commands few within fits =
    let all = kept_along IsInRange IsSoundFleet sound_kept (opened filters) 0 commands (opening_sound filters) (omega arith) (opening_at_most filters 0) (within_opened filters commands within) fits in
    let same = is_folded filters commands in
    record {
      fact = subst₂ IsSoundFleet (sym same.log) (sym same.devices) all.fact;
      long = ap length same.devices ∙ all.long ∙ length_opening 0 filters;
      few = subst (AllByRecursion (HasMadeAtMost (length commands))) (sym same.devices) (subst (λ (j : ℕ). AllByRecursion (HasMadeAtMost j) (fold ran (opened filters) commands).devices) (omega arith) all.few);
    }

-- so the devices are ready for one more command
pub ready_after : (filters : List Tree) (commands : List Command) → length commands ≤ 4_294_967_295 → AllByRecursion (IsWithin (length filters)) commands → IsReady (after_commands filters commands).devices
ready_after filters commands few within =
    let all = kept_along (λ r. Unit {0}) (λ log ds. IsReady ds) ready_kept (opened filters) 0 commands (opening_ready filters) (omega arith) (opening_at_most filters 0) (within_opened filters commands within) (all_fit commands) in
    subst IsReady (sym (is_folded filters commands).devices) all.fact

-- the same for the commands by which a fleet came about
pub came_after : (f : KeptFleet) (came : CameAbout f) → IsAfter IsSoundFleet (length came.filters) (length came.commands) (after_commands came.filters came.commands).log (after_commands came.filters came.commands).devices
came_after f came =
    let count = came.count in
    let few = came.few in
    sound_after came.filters came.commands (omega arith) came.within came.in_range

-- the devices satisfy what the next command requires

pub came_ready : (f : KeptFleet) → CameAbout f → AreReady f.devices
came_ready f came =
    let fleet = after_commands came.filters came.commands in
    let count = came.count in
    let few = came.few in
    record {
      models = fleet.devices;
      shown = came.shown.devices;
      ready = ready_after came.filters came.commands (omega (arith, count, few)) came.within;
    }

pub came_room : (f : KeptFleet) → CameAbout f → f.commands < 4_294_967_295 → HaveRoom f.devices
came_room f came few =
    let count = came.count in
    have_room f.devices (after_commands came.filters came.commands).devices (length came.commands) (omega arith) came.shown.devices (came_after f came).few

-- every fleet is sound
pub came_sound : (f : KeptFleet) → CameAbout f → HasSoundHistory f
came_sound f came = record { came = came; sound = sound_and_kept (after_commands came.filters came.commands) (came_after f came).fact }

-- a fleet before its first command
pub came_first : (f : KeptFleet) (filters : List Tree) → AllZip Shows f.devices (opening_from 0 filters) → AreSettled f.devices → f.log ≡ [] → f.commands ≡ 0 → CameAbout f
came_first f filters shown settled logged none = record {
  filters = filters;
  commands = [];
  within = tt;
  in_range = tt;
  shown = record { devices = shown; log = ap (λ helds. entries_of helds) logged };
  count = none;
  few = omega arith;
  settled = settled;
}

-- a fleet after one more command
pub came_more : (f new : KeptFleet) (k : ℕ) (c : Command) → CameAbout f → IsWithin (length f.devices) c → FitsAll IsInRange c → f.commands < 4_294_967_295
    → ((m : Fleet) → ShowsFleet f m → ShowsFleet new (after_command m k c)) → new.commands ≡ f.commands + 1 → AreSettled new.devices → CameAbout new
came_more f new k c came within fits room shows count settled =
    let fleet = after_commands came.filters came.commands in
    let next = shows fleet came.shown in
    let same = one_later came.filters came.commands k c in
    let long : length f.devices ≡ length came.filters = zip_long Shows f.devices fleet.devices came.shown.devices ∙ (came_after f came).long in
    let counted = came.count in
    record {
      filters = came.filters;
      commands = came.commands ++ c ∷ [];
      within = all_push (IsWithin (length came.filters)) came.commands c came.within (subst (λ (n : ℕ). IsWithin n c) long within);
      in_range = all_push (FitsAll IsInRange) came.commands c came.in_range fits;
      shown = record {
        devices = subst (AllZip Shows new.devices) (sym same.devices) next.devices;
        log = next.log ∙ sym same.log;
      };
      count = omega (arith, length-append came.commands (c ∷ []));
      few = omega arith;
      settled = settled;
    }

-- what a command makes of the devices and the log
pub run_shows : (f : KeptFleet) (given new written : List Kept) (log : List Held) (count k : ℕ) (c : Command) → given ≡ f.devices → written ≡ new
    → ((models : List ModelDevice) → AllZip Shows given models → AllZip Shows new (devices_after models c))
    → ((models : List ModelDevice) → AllZip Shows given models → entries_of log ≡ entries_of f.log ++ (effect_on models c).entries)
    → (m : Fleet) → ShowsFleet f m → ShowsFleet (record { devices = written; log = log; commands = count }) (after_command m k c)
run_shows f given new written log count k c same whole shows logs m old =
    let before : AllZip Shows given m.devices = subst (λ (ds : List Kept). AllZip Shows ds m.devices) (sym same) old.devices in
    record {
      devices = subst (λ (ds : List Kept). AllZip Shows ds (devices_after m.devices c)) (sym whole) (shows m.devices before);
      log = logs m.devices before ∙ ap (λ es. es ++ (effect_on m.devices c).entries) old.log;
    }
