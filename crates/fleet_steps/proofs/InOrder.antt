-- A run of commands one after another, in some order.
use Rattle.std.proofs.Common.{◌≡◌, ℕ, zero, suc, ◌+◌, ◌-◌, ◌<◌, ◌≤◌, true, false, List, [], ◌∷◌, ◌++◌, ◌⊎◌, inl, inr, length, get_or, set, replicate, map, refl, sym, ap, ◌∙◌, subst, length-append, length-set, length-take-le, take, le_refl, arith}
use Rattle.std.specs.Prelude.{Option, Some, None, is_some, IfSome, slice_get, fold, IsPermutation}
use Rattle.std.specs.List.{AllZip, AllByRecursion, flat_map}
use Rattle.std.specs.Option.{option_map, option_to_list}
use Rattle.std.proofs.lemmas.List.{get_or-set_same, get_or-set_other, length-replicate}
use Rattle.std.proofs.lemmas.List.Sums.{fold-append}
use Rattle.std.proofs.lemmas.Option.{slice_get_cases}
use Rattle.std.proofs.lemmas.Bool.{cases_eq}
use Rattle.photo_filter_text.specs.Tree.{All}
use Rattle.photo_version.specs.Author.{author, epoch_of_author}
use Rattle.photo_device.specs.declared.held.Held.{Held}
use Rattle.photo_device.specs.Held.{entries_of}
use Rattle.photo_model.specs.Device.{ModelDevice, opening}
use Rattle.photo_device.specs.Device.{Kept, Shows}
use Rattle.fleet_model.specs.Limits.{max_commands}
use Rattle.fleet_model.specs.declared.command.Command.{Command}
use Rattle.photo_script.specs.declared.report.Report.{Report}
use Rattle.fleet_model.specs.Contents.{Contents, IsScript, devices_of, IsWithin}
use Rattle.fleet_model.specs.Answers.{ModelReport}
use Rattle.photo_script.specs.Reports.{Tells, answer_of, IsAbout}
use Rattle.fleet_model.specs.Runs.{Fleet, opening_from, after_command, step, effect, opening_fleet, run_in_order, run, device_at}
use Rattle.photo_script.specs.declared.report.Report.TheVariants.{NotHeld}
use Rattle.photo_batcher.specs.Related.{IsNumber}
use Rattle.photo_batcher.specs.Orders.{times, IsLawful, AreSameRuns}
use Rattle.photo_batcher.proofs.Counting.{times_cons}
use Rattle.photo_batcher.proofs.Checked.{lawful_long}
use Rattle.photo_batcher.proofs.Turns.{not_counts}
use Rattle.fleet_model.specs.Steps.{effect_on, devices_after, HasMadeAtMost}
use Rattle.fleet_steps.specs.Between.{HaveRoom, AreReady, HaveRun}
use Rattle.fleet_steps.specs.Running.{IsOfFleet, IsTold, RunsTo, HasRun}
use Rattle.fleet_model.proofs.Zipped.{zip_set, zip_long}
use Rattle.fleet_model.proofs.Effects.{all_set, all_at}
use Rattle.fleet_steps.proofs.About.{opening_known, effect_known, effect_known_second, effect_about}
use Rattle.fleet_steps.proofs.Shown.{opening_long}
use Rattle.fleet_model.proofs.EachCommand.{stepped, not_stepped}
use Rattle.fleet_model.proofs.ReadyRuns.{ready_in_order}
use Rattle.fleet_model.proofs.Runs.{opening_at_most, after_all, second_all, long_after, makes_one_more}
use Rattle.fleet_steps.proofs.Runs.{have_room}

next_in : (script : Contents) (front : List ℕ) (n : ℕ) (c : Command) → slice_get script.commands n ≡ Some c → run_in_order script (front ++ suc n ∷ []) ≡ after_command (run_in_order script front) (suc n) c
next_in script front n c here = fold-append (step script) (opening_fleet script) front (suc n ∷ []) ∙ stepped script (run_in_order script front) n c here

more : (script : Contents) (front : List ℕ) (n : ℕ) (devices new : List Kept) (slots : List Report) (log more_log : List Held) (c : Command) (report : Report) → RunsTo script front devices slots log → slice_get script.commands n ≡ Some c → IsWithin (length script.names) c
    → HaveRun c devices new
    → ((models : List ModelDevice) → AllZip Shows devices models → Tells (answer_of report) (effect_on models c).report)
    → ((models : List ModelDevice) → AllZip Shows devices models → entries_of more_log ≡ entries_of log ++ (effect_on models c).entries)
    → RunsTo script (front ++ suc n ∷ []) new (set slots n report) more_log
more script front n devices new slots log more_log c report so_far here declared shows tells logs =
    let k = (devices_of c).0 in
    let count = length front in
    let fleet = run_in_order script front in
    let models = fleet.devices in
    let done = effect_on models c in
    let second = option_map (device_at models) (devices_of c).1 in
    let next : run_in_order script (front ++ suc n ∷ []) ≡ after_command fleet (suc n) c = next_in script front n c here in
    let longer : length (front ++ suc n ∷ []) ≡ count + 1 = length-append front (suc n ∷ []) in
    let long : length devices ≡ length models = zip_long Shows devices models so_far.shown in
    let size : length script.names ≡ length models = sym so_far.long ∙ long in
    let within : IsWithin (length models) c = subst (λ (j : ℕ). IsWithin j c) size declared in
    let shown : AllZip Shows new (devices_after models c) = shows models so_far.shown in
    let told : Tells (answer_of report) done.report = tells models so_far.shown in
    let place : suc n - 1 ≡ n = omega arith in
    let same_long : length new ≡ length models = zip_long Shows new (devices_after models c) shown ∙ long_after c models in
    record {
      long = same_long ∙ sym long ∙ so_far.long;
      shown = subst (λ (f : Fleet). AllZip Shows new f.devices) (sym next) shown;
      told = subst (λ (f : Fleet). AllZip IsTold (set slots n report) f.reports) (sym next) (subst (λ (j : ℕ). AllZip IsTold (set slots n report) (set fleet.reports j (Some done.report))) (sym place) (zip_set IsTold slots fleet.reports n report (Some done.report) so_far.told told));
      known = λ few.
          let below : count < 4_294_967_295 = omega (arith, longer, few) in
          let all = so_far.known (omega (arith, below)) in
          let of_first : IsOfFleet script (device_at models k) = all_at (IsOfFleet script) models k (opening (author k) All) all within.0 in
          let of_second : IfSome second (IsOfFleet script) = second_all (IsOfFleet script) models (devices_of c).1 k (length models) (le_refl _) all within.1 in
          let most : HasMadeAtMost count (device_at models k) = all_at (HasMadeAtMost count) models k (opening (author k) All) so_far.counted within.0 in
          let begun : epoch_of_author (device_at models k).author ≤ count = most.begun in
          subst (λ (f : Fleet). AllByRecursion (IsOfFleet script) f.devices) (sym next)
          (after_all (IsOfFleet script) c models all (effect_known script c (device_at models k) second (omega (arith, below, begun)) of_first of_second) (effect_known_second script c (device_at models k) second of_first of_second));
      about = λ few.
          let below : count ≤ 4_294_967_295 = omega (arith, longer, few) in
          let of_first : IsOfFleet script (device_at models k) = all_at (IsOfFleet script) models k (opening (author k) All) (so_far.known below) within.0 in
          all_set (λ report. IsAbout script (answer_of report)) slots n report (so_far.about below) (effect_about script c (device_at models k) second declared.0 of_first (answer_of report) told);
      counted = subst (λ (f : Fleet). AllByRecursion (HasMadeAtMost (length (front ++ suc n ∷ []))) f.devices) (sym next)
          (subst (λ (j : ℕ). AllByRecursion (HasMadeAtMost j) (devices_after models c)) (sym longer) (makes_one_more models c count within so_far.counted));
      logged = logs models so_far.shown ∙ ap (λ l. l ++ done.entries) so_far.logged ∙ sym (ap (λ (f : Fleet). f.log) next);
    }

pub runs_more : (script : Contents) (front : List ℕ) (number : ℕ) (devices new : List Kept) (slots : List Report) (log more_log : List Held) (c : Command) (report : Report) → 0 < number → RunsTo script front devices slots log → slice_get script.commands (number - 1) ≡ Some c → IsWithin (length script.names) c
    → HaveRun c devices new
    → ((models : List ModelDevice) → AllZip Shows devices models → Tells (answer_of report) (effect_on models c).report)
    → ((models : List ModelDevice) → AllZip Shows devices models → entries_of more_log ≡ entries_of log ++ (effect_on models c).entries)
    → RunsTo script (front ++ number ∷ []) new (set slots (number - 1) report) more_log
runs_more script front zero devices new slots log more_log c report some so_far here declared shows tells logs = absurd (omega arith)
runs_more script front (suc n) devices new slots log more_log c report some so_far here declared shows tells logs =
    let place : suc n - 1 ≡ n = omega arith in
    subst (λ (j : ℕ). RunsTo script (front ++ suc n ∷ []) new (set slots j report) more_log) (sym place)
    (more script front n devices new slots log more_log c report so_far (ap (slice_get script.commands) (sym place) ∙ here) declared shows tells logs)

none_told : (n : ℕ) (report : Report) → AllZip IsTold (replicate n report) (replicate n None)
none_told zero report = tt
none_told (suc n) report = (tt, none_told n report)

none_about : (script : Contents) (n : ℕ) (report : Report) → IsAbout script (answer_of report) → AllByRecursion (λ report. IsAbout script (answer_of report)) (replicate n report)
none_about script zero report is = tt
none_about script (suc n) report is = (is, none_about script n report is)

-- before any command
pub runs_none : (script : Contents) (devices : List Kept) (slots : List Report) (log : List Held) → AllZip Shows devices (opening_from 0 script.filters) → length devices ≡ length script.names → slots ≡ replicate (length script.commands) NotHeld → log ≡ [] → RunsTo script [] devices slots log
runs_none script devices slots log all long none none_logged = record {
  long = long;
  shown = all;
  told = subst (λ (l : List Report). AllZip IsTold l (replicate (length script.commands) None)) (sym none) (none_told (length script.commands) NotHeld);
  known = λ _. opening_known script (let same = opening_long script.filters 0 devices all in omega (arith, long));
  about = λ _. subst (AllByRecursion (λ report. IsAbout script (answer_of report))) (sym none) (none_about script (length script.commands) NotHeld tt);
  counted = opening_at_most script.filters 0;
  logged = ap entries_of none_logged;
}

-- the devices satisfy what the next command requires
pub runs_ready : (script : Contents) (front : List ℕ) (devices : List Kept) (slots : List Report) (log : List Held) → IsScript script → length front < 4_294_967_295 → RunsTo script front devices slots log → AreReady devices
runs_ready script front devices slots log is few to = record { models = (run_in_order script front).devices; shown = to.shown; ready = ready_in_order script front is (omega (arith, few)) }

pub runs_room : (script : Contents) (front : List ℕ) (devices : List Kept) (slots : List Report) (log : List Held) → length front < 4_294_967_295 → RunsTo script front devices slots log → HaveRoom devices
runs_room script front devices slots log few to = have_room devices (run_in_order script front).devices (length front) few to.shown to.counted

-- the reports of the whole run

told_reports : (reports : List Report) (right : List (Option ModelReport)) → AllByRecursion (λ r. is_some r ≡ true) right → AllZip IsTold reports right → AllZip Tells (map answer_of reports) (flat_map option_to_list right)
told_reports [] [] some all = tt
told_reports [] (m ∷ ms) some all = absurd all
told_reports (r ∷ rs) [] some all = absurd all
told_reports (r ∷ rs) (None ∷ ms) some all = let no_report : false ≡ true = some.0 in cc
told_reports (r ∷ rs) (Some m ∷ ms) some all = (all.0, told_reports rs ms some.1 all.1)

about_reports : (script : Contents) (reports : List Report) → AllByRecursion (λ report. IsAbout script (answer_of report)) reports → AllByRecursion (IsAbout script) (map answer_of reports)
about_reports script [] all = tt
about_reports script (r ∷ rs) all = (all.0, about_reports script rs all.1)

-- each command of an order has its report

all_points : (xs : List (Option ModelReport)) → ((k : ℕ) → k < length xs → is_some (get_or xs k None) ≡ true) → AllByRecursion (λ r. is_some r ≡ true) xs
all_points [] each = tt
all_points (x ∷ xs) each = (each 0 (omega arith), all_points xs (λ k h. each (suc k) (omega arith)))

filled_from : (script : Contents) (numbers : List ℕ) (fleet : Fleet) (k : ℕ) → length fleet.reports ≡ length script.commands → k < length script.commands → (0 < times (suc k) numbers) ⊎ (is_some (get_or fleet.reports k None) ≡ true) → is_some (get_or (fold (step script) fleet numbers).reports k None) ≡ true
filled_from script [] fleet k long h (inl stands) = let none : times (suc k) [] ≡ 0 = refl in absurd (omega arith)
filled_from script [] fleet k long h (inr is) = is
filled_from script (zero ∷ more) fleet k long h (inl stands) = filled_from script more fleet k long h (inl (let c = times_cons (suc k) 0 more in let z = not_counts 0 (suc k) (omega arith) in omega arith))
filled_from script (zero ∷ more) fleet k long h (inr is) = filled_from script more fleet k long h (inr is)
filled_from script (suc n ∷ more) fleet k long h stands = elim (slice_get_cases script.commands n).1 [
  | inl found ↦
      let c = found.0 in
      let next : step script fleet (suc n) ≡ after_command fleet (suc n) c = stepped script fleet n c found.2 in
      let d = (effect c (device_at fleet.devices (devices_of c).0) (option_map (device_at fleet.devices) (devices_of c).1)).report in
      let place : suc n - 1 ≡ n = omega arith in
      let reports : (step script fleet (suc n)).reports ≡ set fleet.reports n (Some d) = ap (λ (f : Fleet). f.reports) next ∙ ap (λ (j : ℕ). set fleet.reports j (Some d)) place in
      let longer : length (step script fleet (suc n)).reports ≡ length script.commands = ap length reports ∙ length-set fleet.reports n (Some d) ∙ long in
      filled_from script more (step script fleet (suc n)) k longer h (by fleet n d (step script fleet (suc n)).reports reports long)
  | inr past ↦
      let next : step script fleet (suc n) ≡ fleet = not_stepped script fleet n past.1 in
      let far = past.0 in
      let longer : length (step script fleet (suc n)).reports ≡ length script.commands = ap (λ (f : Fleet). length f.reports) next ∙ long in
      filled_from script more (step script fleet (suc n)) k longer h (subst (λ (f : Fleet). (0 < times (suc k) more) ⊎ (is_some (get_or f.reports k None) ≡ true)) (sym next) (still stands (omega arith)))
]
  where
    still : (0 < times (suc k) (suc n ∷ more)) ⊎ (is_some (get_or fleet.reports k None) ≡ true) → (n ≡ k → ⊥) → (0 < times (suc k) more) ⊎ (is_some (get_or fleet.reports k None) ≡ true)
    still (inl a) other = inl (let c = times_cons (suc k) (suc n) more in let z = not_counts (suc n) (suc k) (λ e. other (omega arith)) in omega arith)
    still (inr b) other = inr b

    by : (f : Fleet) (m : ℕ) (d : ModelReport) (reports : List (Option ModelReport)) → reports ≡ set fleet.reports n (Some d) → length fleet.reports ≡ length script.commands → (0 < times (suc k) more) ⊎ (is_some (get_or reports k None) ≡ true)
    by f m d reports is long = elim (cases_eq n k) [
      | inl same ↦ inr (ap (λ (l : List (Option ModelReport)). is_some (get_or l k None)) is ∙ ap (λ (j : ℕ). is_some (get_or (set fleet.reports j (Some d)) k None)) same ∙ ap is_some (get_or-set_same fleet.reports k (Some d) None (omega arith)))
      | inr other ↦ elim (still stands other) [
        | inl a ↦ inl a
        | inr b ↦ inr (ap (λ (l : List (Option ModelReport)). is_some (get_or l k None)) is ∙ ap is_some (get_or-set_other fleet.reports n k (Some d) None (λ e. other (sym e))) ∙ b)
      ]
    ]

long_reports : (script : Contents) (numbers : List ℕ) (fleet : Fleet) → length (fold (step script) fleet numbers).reports ≡ length fleet.reports
long_reports script [] fleet = refl
long_reports script (zero ∷ more) fleet = long_reports script more fleet
long_reports script (suc n ∷ more) fleet = long_reports script more (step script fleet (suc n)) ∙ elim (slice_get_cases script.commands n).1 [
  | inl found ↦ ap (λ (f : Fleet). length f.reports) (stepped script fleet n found.0 found.2) ∙ length-set fleet.reports (suc n - 1) _
  | inr past ↦ ap (λ (f : Fleet). length f.reports) (not_stepped script fleet n past.1)
]

filled : (script : Contents) (order : List ℕ) → IsLawful script order → AllByRecursion (λ r. is_some r ≡ true) (run_in_order script order).reports
filled script order lawful =
    let opened : length (opening_fleet script).reports ≡ length script.commands = length-replicate (length script.commands) None in
    let long : length (run_in_order script order).reports ≡ length (opening_fleet script).reports = long_reports script order (opening_fleet script) in
    all_points (run_in_order script order).reports (λ k h. filled_from script order (opening_fleet script) k opened (omega arith) (inl (let one = lawful.once (suc k) (omega arith, omega arith) in omega arith)))

-- a run in a lawful order has given what the run gives
pub runs_all : (script : Contents) (order : List ℕ) (devices : List Kept) (reports : List Report) (log : List Held) → length script.commands ≤ max_commands → RunsTo script order devices reports log → IsLawful script order → AreSameRuns (run_in_order script order) (run script) → HasRun script devices reports log
runs_all script order devices reports log small to lawful same =
    let long = lawful_long script order lawful in
    record {
      devices_are = subst (AllZip Shows devices) same.devices to.shown;
      right = subst (λ (l : List (Option ModelReport)). AllZip Tells (map answer_of reports) (flat_map option_to_list l)) same.reports (told_reports reports (run_in_order script order).reports (filled script order lawful) to.told);
      about = about_reports script reports (to.about (omega (arith, small, long)));
      logged = subst (IsPermutation (run script).log) (sym to.logged) same.log;
    }

-- the number at an index of a lawful order
pub order_number : (script : Contents) (order : List ℕ) (i : ℕ) → IsLawful script order → i < length order → IsNumber script (get_or order i 0)
order_number script order i lawful h = all_at (IsNumber script) order i 0 lawful.numbers h

pub few_in : (script : Contents) (order : List ℕ) (i : ℕ) → IsScript script → IsLawful script order → i < length order → length (take i order) < 4_294_967_295
few_in script order i is lawful h =
    let long = lawful_long script order lawful in
    let short = length-take-le i order (omega arith) in
    let few = is.commands in
    omega arith

pub long_slots : (script : Contents) (front : List ℕ) (devices : List Kept) (slots : List Report) (log : List Held) → RunsTo script front devices slots log → length slots ≡ length script.commands
long_slots script front devices slots log to =
    zip_long IsTold slots (run_in_order script front).reports to.told ∙ long_reports script front (opening_fleet script) ∙ length-replicate (length script.commands) None
