-- No pull moves more versions than were made before it, so reports give small counts.
use Rattle.std.proofs.Common.{◌≡◌, ℕ, zero, suc, ◌+◌, ◌-◌, ◌<◌, ◌≤◌, Bool, true, false, if◌then◌else◌, not, ◌&&◌, List, [], ◌∷◌, ◌++◌, inl, inr, length, filter, replicate, set, refl, sym, ap, ◌∙◌, subst, arith, length-append}
use Rattle.std.specs.Prelude.{Option, Some, None, IfSome, fold}
use Rattle.std.specs.List.{AllByRecursion, AllZip, flat_map}
use Rattle.std.specs.Option.{option_map, option_to_list}
use Rattle.std.proofs.lemmas.List.Sums.{fold-append}
use Rattle.std.proofs.lemmas.List.Filters.{length-filter_both}
use Rattle.std.proofs.lemmas.Option.{slice_get_cases, slice_get_within}
use Rattle.photo_record.specs.declared.record.Record.TheVariants.{Removed}
use Rattle.photo_filter_text.specs.Tree.{Tree}
use Rattle.photo_filter_rules.specs.Matching.{IsInRange}
use Rattle.photo_filter_rules.specs.Covers.{covers}
use Rattle.photo_model.specs.Entry.{Entry}
use Rattle.photo_model.specs.Device.{ModelDevice, holds, knows_entry, selects, narrowed, moved, is_held, made}
use Rattle.photo_model.specs.Refiltered.{refiltered}
use Rattle.photo_model.specs.Pull.{taken, handed, pulled, handed_over}
use Rattle.fleet_model.specs.Limits.{max_commands}
use Rattle.fleet_model.specs.declared.command.Command.{Command}
use Rattle.fleet_model.specs.declared.command.Command.TheVariants as command
use Rattle.fleet_model.specs.Contents.{Contents, IsWithin, IsScript, devices_of}
use Rattle.fleet_model.specs.Answers.{ModelReport, Exactly, KnowledgeIs, NotHeld, NotNarrower, Narrowed}
use Rattle.photo_script.specs.Reports.{Answer, Tells}
use Rattle.fleet_model.specs.Runs.{device_at, Fleet, Effect, effect, making, telling, opening_from, opening_fleet, step, run_in_order, numbers_to, run, reports_of}
use Rattle.fleet_model.specs.Tallies.{moved_by_report, max_moved}
use Rattle.photo_script.specs.Tallies.{moved_by}
use Rattle.fleet_model.specs.Steps.{effect_on}
use Rattle.fleet_steps.specs.Laws.{PullsMoveWhatWasMade, PullsMoveFew}
use Rattle.fleet_model.proofs.Places.{each_changed, each_two_changed}
use Rattle.fleet_model.proofs.EachCommand.{IsKept, IsAfter, after_all_of, stepped, not_stepped, all_got, narrowed_effect}
use Rattle.fleet_model.proofs.ReadyRuns.{opened_at}
use Rattle.fleet_model.proofs.SoundFacts.{IsSoundFleet}
use Rattle.fleet_model.proofs.SoundRuns.{sound_kept, opening_sound}
use Rattle.fleet_model.proofs.TracedFleets.{bounded}
use Rattle.fleet_model.proofs.Times.{AreOnce}
use Rattle.fleet_model.proofs.Once.{made_once, narrowed_once, refiltered_once, pulled_once, handed_once, no_more}

-- the fleet is sound, and no device holds a version twice
record IsOnceFleet (log : List Entry) (devices : List ModelDevice) : Type 0 where
  pub sound : IsSoundFleet log devices
  pub once : (k : ℕ) → k < length devices → AreOnce (holds (device_at devices k))

opening_once : (filters : List Tree) → IsOnceFleet [] (opening_from 0 filters)
opening_once filters = record {
  sound = opening_sound filters;
  once = λ k h. let r = opened_at k filters h in subst (λ (d : ModelDevice). AreOnce (holds d)) (sym r.1) (λ v. omega arith);
}

once_kept : IsKept IsInRange IsOnceFleet
once_kept = record {
  removed = tt;
  making = λ log ds k p r H h fits. record {
    sound = sound_kept.making log ds k p r H.sound h fits;
    once = each_changed (λ _ x. AreOnce (holds x)) ds k (made (device_at ds k) p r) h
        (made_once log (device_at ds k) p r H.sound.traced.log_is (H.sound.traced.each k h) (bounded log ds H.sound.traced k h) (H.once k h))
        (λ j i _. H.once j i);
  };
  narrowing = λ log ds k tree H h covered. record {
    sound = sound_kept.narrowing log ds k tree H.sound h covered;
    once = each_changed (λ _ x. AreOnce (holds x)) ds k (narrowed tree (device_at ds k)) h (narrowed_once tree (device_at ds k) (H.once k h)) (λ j i _. H.once j i);
  };
  refiltering = λ log ds k tree H h few. record {
    sound = sound_kept.refiltering log ds k tree H.sound h few;
    once = each_changed (λ _ x. AreOnce (holds x)) ds k (refiltered tree (device_at ds k)) h (refiltered_once tree (device_at ds k) (H.once k h)) (λ j i _. H.once j i);
  };
  pulling = λ log ds t s H h k apart. record {
    sound = sound_kept.pulling log ds t s H.sound h k apart;
    once = each_two_changed (λ _ x. AreOnce (holds x)) ds t s (pulled (device_at ds t) (device_at ds s)) (handed_over (device_at ds t) (device_at ds s)) h k
        (pulled_once log (device_at ds t) (device_at ds s) H.sound.traced.log_is (H.sound.traced.each t h) (H.sound.traced.each s k) (H.sound.each t h).held_known (H.once t h) (H.once s k))
        (handed_once log (device_at ds t) (device_at ds s) H.sound.traced.log_is (H.sound.traced.each t h) (H.sound.traced.each s k) (H.sound.each t h).held_known (H.once s k))
        H.once;
  };
}

-- a command makes at most one version

few_of : (b : Bool) (x y : Effect) → length x.entries ≤ 1 → length y.entries ≤ 1 → length (if b then x else y).entries ≤ 1
few_of true x y a b = a
few_of false x y a b = b

few_entries : (c : Command) (d : ModelDevice) (other : Option ModelDevice) → length (effect c d other).entries ≤ 1
few_entries (command.New k p r) d other = omega arith
few_entries (command.Edit k p r) d other = few_of (is_held d p) (making d other p r) (telling d other (Exactly NotHeld)) (omega arith) (omega arith)
few_entries (command.Remove k p) d other = few_of (is_held d p) (making d other p Removed) (telling d other (Exactly NotHeld)) (omega arith) (omega arith)
few_entries (command.Pull t s) d None = omega arith
few_entries (command.Pull t s) d (Some x) = omega arith
few_entries (command.Narrow k tree) d other =
    few_of (covers d.tree tree) (record { first = narrowed tree d; second = other; report = Exactly (Narrowed (moved tree d)); entries = [] }) (telling d other (Exactly NotNarrower)) (omega arith) (omega arith)
few_entries (command.Refilter k tree) d other = omega arith
few_entries (command.Preview t s) d None = omega arith
few_entries (command.Preview t s) d (Some x) = omega arith
few_entries (command.List k) d other = omega arith
few_entries (command.Conflicts k) d other = omega arith
few_entries (command.Knowledge k) d other = omega arith
few_entries (command.Knows k p v) d other = omega arith

-- the log grows by at most one entry per command
log_grows : (script : Contents) (numbers : List ℕ) (fleet : Fleet) → length (fold (step script) fleet numbers).log ≤ length fleet.log + length numbers
log_grows script [] fleet = omega arith
log_grows script (zero ∷ more) fleet = let rest : length (fold (step script) fleet more).log ≤ length fleet.log + length more = log_grows script more fleet in omega arith
log_grows script (suc n ∷ more) fleet =
    let rest : length (fold (step script) (step script fleet (suc n)) more).log ≤ length (step script fleet (suc n)).log + length more = log_grows script more (step script fleet (suc n)) in
    elim (slice_get_cases script.commands n).1 [
      | inl here ↦
          let c = here.0 in
          let done = effect_on fleet.devices c in
          let few : length done.entries ≤ 1 = few_entries c (device_at fleet.devices (devices_of c).0) (option_map (device_at fleet.devices) (devices_of c).1) in
          let longer : length (step script fleet (suc n)).log ≡ length fleet.log + length done.entries = ap (λ (f : Fleet). length f.log) (stepped script fleet n c here.2) ∙ length-append fleet.log done.entries in
          omega (arith, rest, few, longer)
      | inr past ↦
          let same : length (step script fleet (suc n)).log ≡ length fleet.log = ap (λ (f : Fleet). length f.log) (not_stepped script fleet n past.1) in
          omega (arith, rest, same)
    ]

-- how many versions a report says were moved

small_of : (most : ℕ) (b : Bool) (x y : Effect) → moved_by_report x.report ≤ most → moved_by_report y.report ≤ most → moved_by_report (if b then x else y).report ≤ most
small_of most true x y a b = a
small_of most false x y a b = b

shorter : (p : Entry → Bool) (xs : List Entry) → length (filter p xs) ≤ length xs
shorter p xs = let both : length (filter p xs) + length (filter (λ x. not (p x)) xs) ≡ length xs = length-filter_both p (λ x. not (p x)) (λ _. refl) xs in omega arith

-- the versions taken are some of the source's store, and those handed over are some of its out
pull_is_small : (most : ℕ) (t s : ModelDevice) → length (holds s) ≤ most → length (taken t s) + length (handed t s) ≤ most
pull_is_small most t s few =
    let store : length (taken t s) ≤ length s.store = shorter (λ (e : Entry). not (knows_entry t e) && selects t e) s.store in
    let out : length (handed t s) ≤ length s.out = shorter (λ (e : Entry). not (knows_entry t e)) s.out in
    let all : length (holds s) ≡ length s.store + length s.out = length-append s.store s.out in
    omega arith

moves_few : (most : ℕ) (devices : List ModelDevice) (c : Command) → IsWithin (length devices) c → ((k : ℕ) → k < length devices → length (holds (device_at devices k)) ≤ most)
    → moved_by_report (effect_on devices c).report ≤ most
moves_few most ds (command.New k p r) w few = omega arith
moves_few most ds (command.Edit k p r) w few = small_of most (is_held (device_at ds k) p) (making (device_at ds k) None p r) (telling (device_at ds k) None (Exactly NotHeld)) (omega arith) (omega arith)
moves_few most ds (command.Remove k p) w few = small_of most (is_held (device_at ds k) p) (making (device_at ds k) None p Removed) (telling (device_at ds k) None (Exactly NotHeld)) (omega arith) (omega arith)
moves_few most ds (command.Pull t s) w few = pull_is_small most (device_at ds t) (device_at ds s) (few s w.1.0)
moves_few most ds (command.Narrow k tree) w few = small_of most (covers (device_at ds k).tree tree) (narrowed_effect (device_at ds k) tree) (telling (device_at ds k) None (Exactly NotNarrower)) (omega arith) (omega arith)
moves_few most ds (command.Refilter k tree) w few = omega arith
moves_few most ds (command.Preview t s) w few = omega arith
moves_few most ds (command.List k) w few = omega arith
moves_few most ds (command.Conflicts k) w few = omega arith
moves_few most ds (command.Knowledge k) w few = omega arith
moves_few most ds (command.Knows k p v) w few = omega arith

told_small : (most : ℕ) (a : Answer) (r : ModelReport) → Tells a r → moved_by_report r ≤ most → moved_by a ≤ most
told_small most a (Exactly right) told small = subst (λ (x : Answer). moved_by x ≤ most) (sym told) small
told_small most a (KnowledgeIs device known) told small = subst (λ (x : Answer). moved_by x ≤ most) (sym told.given) (omega arith)

module _ (script : Contents) (is : IsScript script) where
  after : (numbers : List ℕ) → length numbers ≤ 4_294_967_295 → IsAfter IsOnceFleet (length script.names) (length numbers) (run_in_order script numbers).log (run_in_order script numbers).devices
  after = after_all_of IsInRange IsOnceFleet once_kept script is is.in_range (opening_once script.filters)

  few_held : (numbers : List ℕ) → length numbers ≤ 4_294_967_295 → (k : ℕ) → k < length (run_in_order script numbers).devices → length (holds (device_at (run_in_order script numbers).devices k)) ≤ length numbers
  few_held numbers below k h =
      let fleet = run_in_order script numbers in
      let facts : IsOnceFleet fleet.log fleet.devices = (after numbers below).fact in
      let made : length (holds (device_at fleet.devices k)) ≤ length fleet.log = no_more fleet.log (holds (device_at fleet.devices k)) (facts.sound.traced.each k h).logged (facts.once k h) in
      let log : length fleet.log ≤ 0 + length numbers = log_grows script numbers (opening_fleet script) in
      omega (arith, made, log)

  -- a command that runs after others
  next_moves_few : (numbers : List ℕ) (c : Command) → length numbers ≤ 4_294_967_295 → IsWithin (length script.names) c → moved_by_report (effect_on (run_in_order script numbers).devices c).report ≤ length numbers
  next_moves_few numbers c below within =
      let fleet = run_in_order script numbers in
      let long : length fleet.devices ≡ length script.names = (after numbers below).long in
      moves_few (length numbers) fleet.devices c (subst (λ (m : ℕ). IsWithin m c) (sym long) within) (few_held numbers below)

pub pulls_move_what_was_made : PullsMoveWhatWasMade
pulls_move_what_was_made script numbers c answer is below within told = told_small (length numbers) answer (effect_on (run_in_order script numbers).devices c).report told (next_moves_few script is numbers c below within)

-- the reports of a run

abbrev IsSmall : Option ModelReport → Type 0
IsSmall report = IfSome report (λ r. moved_by_report r ≤ max_commands)

none_small : (n : ℕ) → AllByRecursion IsSmall (replicate n None)
none_small zero = tt
none_small (suc n) = (tt, none_small n)

set_small : (reports : List (Option ModelReport)) (k : ℕ) (r : ModelReport) → AllByRecursion IsSmall reports → moved_by_report r ≤ max_commands → AllByRecursion IsSmall (set reports k (Some r))
set_small [] k r all here = tt
set_small (x ∷ xs) zero r all here = (here, all.1)
set_small (x ∷ xs) (suc k) r all here = (all.0, set_small xs k r all.1 here)

length_numbers : (n : ℕ) → length (numbers_to n) ≡ n
length_numbers zero = refl
length_numbers (suc n) = let longer : length (numbers_to n ++ suc n ∷ []) ≡ length (numbers_to n) + 1 = length-append (numbers_to n) (suc n ∷ []) in let rest : length (numbers_to n) ≡ n = length_numbers n in omega arith

module _ (script : Contents) (is : IsScript script) where
  reports_small : (n : ℕ) → AllByRecursion IsSmall (run_in_order script (numbers_to n)).reports
  reports_small zero = none_small (length script.commands)
  reports_small (suc n) =
      let fleet = run_in_order script (numbers_to n) in
      subst (λ (f : Fleet). AllByRecursion IsSmall f.reports) (sym (fold-append (step script) (opening_fleet script) (numbers_to n) (suc n ∷ []))) (
      elim (slice_get_cases script.commands n).1 [
        | inl here ↦
            let c = here.0 in
            let within : IsWithin (length script.names) c = all_got (IsWithin (length script.names)) script.commands n c is.known here.2 in
            let below : n < length script.commands = slice_get_within script.commands n c here.2 in
            let commands : length script.commands ≤ max_commands = is.commands in
            let count : length (numbers_to n) ≡ n = length_numbers n in
            let moved : moved_by_report (effect_on fleet.devices c).report ≤ length (numbers_to n) = next_moves_few script is (numbers_to n) c (omega (arith, below, commands, count)) within in
            let small : moved_by_report (effect_on fleet.devices c).report ≤ max_commands = omega (arith, below, commands, count, moved) in
            subst (λ (f : Fleet). AllByRecursion IsSmall f.reports) (sym (stepped script fleet n c here.2))
            (set_small fleet.reports (suc n - 1) (effect_on fleet.devices c).report (reports_small n) small)
        | inr past ↦ subst (λ (f : Fleet). AllByRecursion IsSmall f.reports) (sym (not_stepped script fleet n past.1)) (reports_small n)
      ])

all_small : (reports : List (Option ModelReport)) → AllByRecursion IsSmall reports → AllByRecursion (λ r. moved_by_report r ≤ max_commands) (flat_map option_to_list reports)
all_small [] all = tt
all_small (None ∷ more) all = all_small more all.1
all_small (Some r ∷ more) all = (all.0, all_small more all.1)

all_told_small : (answers : List Answer) (reports : List ModelReport) → AllZip Tells answers reports → AllByRecursion (λ r. moved_by_report r ≤ max_commands) reports → AllByRecursion (λ a. moved_by a ≤ max_commands) answers
all_told_small [] [] told small = tt
all_told_small [] (r ∷ rs) told small = absurd told
all_told_small (a ∷ more) [] told small = absurd told
all_told_small (a ∷ more) (r ∷ rs) told small = (told_small max_commands a r told.0 small.0, all_told_small more rs told.1 small.1)

pub pulls_move_few : PullsMoveFew
pulls_move_few script answers is right = all_told_small answers (reports_of (run script)) right (all_small (run script).reports (reports_small script is (length script.commands)))

-- as the totals require it
pub small_enough : (answers : List Answer) → AllByRecursion (λ a. moved_by a ≤ max_commands) answers → AllByRecursion (λ a. moved_by a ≤ max_moved) answers
small_enough [] all = tt
small_enough (a ∷ more) all = let few : moved_by a ≤ max_commands = all.0 in (omega arith, small_enough more all.1)
