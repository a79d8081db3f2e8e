-- Before the first batch and after the last.
use Rattle.std.proofs.Common.{◌≡◌, ◌∙◌, ◌≤◌, List, [], ◌∷◌, ◌++◌, length, map, replicate, refl, sym, ap, subst, arith, append_assoc, append-nil}
use Rattle.std.specs.Prelude.{Option, Some, None, IsPermutation}
use Rattle.std.specs.List.{AllZip, AllByRecursion}
use Rattle.std.proofs.lemmas.List.Sums.{count_by-le-length}
use Rattle.photo_device.specs.declared.held.Held.{Held}
use Rattle.photo_device.specs.Device.{Kept, Shows}
use Rattle.fleet_model.specs.Contents.{Contents, IsScript}
use Rattle.fleet_model.specs.Limits.{max_commands}
use Rattle.fleet_model.specs.declared.tally.Tally.{Tally}
use Rattle.photo_script.specs.declared.report.Report.{Report}
use Rattle.photo_script.specs.declared.report.Report.TheVariants.{NotHeld}
use Rattle.photo_script.specs.Reports.{Tells, IsAbout, answer_of}
use Rattle.photo_device.specs.Held.{entries_of}
use Rattle.fleet_model.specs.Runs.{run, reports_of, opening_from}
use Rattle.fleet_model.specs.Tallies.{tally_of, kind_of, is_change, is_pull, is_question}
use Rattle.work_ledger.specs.Ledgers.{all_parts}
use Rattle.work_ledger.specs.Stakes.{Stake, stake, less, totals, nothing_done, IsCountable}
use Rattle.fleet_steps.specs.Outcomes.{IsOutcome}
use Rattle.fleet_steps.specs.declared.outcome.Outcome.{Outcome}
use Rattle.fleet_steps.proofs.InOrder.{runs_none, long_slots}
use Rattle.fleet_model.proofs.SoundRuns.{stays_sound_and_kept}
use Rattle.fleet_workers.specs.declared.slots.Slots.{Slots}
use Rattle.fleet_workers.specs.Counting.{tally_at}
use Rattle.fleet_workers.specs.Progress.{HasRun, HasEnded}
use Rattle.fleet_workers.proofs.Counting.{tally_same}
use Rattle.fleet_workers.proofs.Planned.{has_replayed, totals_are}

-- before any command
pub opened : (script : Contents) (devices : List Kept) (slots : Slots) → IsScript script → AllZip Shows devices (opening_from 0 script.filters) → length devices ≡ length script.names → slots.devices.items ≡ map Some devices
    → slots.reports.items ≡ replicate (length script.commands) NotHeld → slots.log.items ≡ [] → HasRun script [] slots (stake all_parts (tally_of script) nothing_done)
opened script devices slots is shown long here none none_logged = record {
  devices = devices;
  here = here;
  to = runs_none script devices slots.reports.items slots.log.items shown long none none_logged;
  done = [];
  numbers = refl;
  reports = none;
  counted = λ i. stake all_parts (same i) nothing_done;
}
  where
    same : tally_of script ≡ less (tally_of script) (tally_at script [])
    same = tally_same _ _ _ _ _ _ (omega arith) (omega arith) (omega arith)

-- slots that are still to be emptied; each has a device
abbrev pub IsLeft : List (Option Kept) → List Kept → List (Option Kept) → Type 0
IsLeft all done rest = (left : List Kept) × (rest ≡ map Some left) × (all ≡ map Some (done ++ left))

pub left_some : (all : List (Option Kept)) (done : List Kept) (rest : List (Option Kept)) → IsLeft all done (None ∷ rest) → ⊥
left_some all done rest l = by_cases l.0 l.1
  where
    by_cases : (left : List Kept) → None ∷ rest ≡ map Some left → ⊥
    by_cases [] is = cc
    by_cases (d ∷ ds) is = cc

pub left_more : (all : List (Option Kept)) (done new : List Kept) (d : Kept) (now rest : List (Option Kept)) → now ≡ Some d ∷ rest → new ≡ done ++ d ∷ [] → IsLeft all done now → IsLeft all new rest
left_more all done new d now rest next pushed l = by_cases l.0 (sym next ∙ l.1) l.2
  where
    by_cases : (left : List Kept) → Some d ∷ rest ≡ map Some left → all ≡ map Some (done ++ left) → IsLeft all new rest
    by_cases [] is whole = cc
    by_cases (e ∷ es) is whole =
        let head : e ≡ d = cc in
        let tail : rest ≡ map Some es = cc in
        (es, tail, whole ∙ ap (λ (x : Kept). map Some (done ++ x ∷ es)) head ∙ ap (map Some) (sym (ap (λ (l : List Kept). l ++ es) pushed ∙ append_assoc done (d ∷ []) es)))

pub left_none : (all : List (Option Kept)) (done : List Kept) (rest : List (Option Kept)) → rest ≡ [] → IsLeft all done rest → all ≡ map Some done
left_none all done rest none l = by_cases l.0 (sym none ∙ l.1) l.2
  where
    by_cases : (left : List Kept) → [] ≡ map Some left → all ≡ map Some (done ++ left) → all ≡ map Some done
    by_cases [] is whole = whole ∙ ap (map Some) (append-nil done)
    by_cases (e ∷ es) is whole = cc

same_items : (xs ys : List Kept) → map Some xs ≡ map Some ys → xs ≡ ys
same_items [] [] e = refl
same_items [] (y ∷ ys) e = cc
same_items (x ∷ xs) [] e = cc
same_items (x ∷ xs) (y ∷ ys) e =
    let head : x ≡ y = cc in
    let tail : map {A = Kept} {B = Option Kept} Some xs ≡ map Some ys = cc in
    let rest = same_items xs ys tail in
    λ i. head i ∷ rest i

-- after all commands
pub ended : (script : Contents) (slots : Slots) (share : Stake) (o : Outcome) → HasEnded script slots share → slots.devices.items ≡ map Some o.devices.items → o.reports ≡ slots.reports → o.log ≡ slots.log.items → o.totals ≡ share.done → IsOutcome script o
ended script slots share o h devices reports log totals =
    let r = h.run in
    let few = h.is.commands in
    let replayed = has_replayed script h.order slots share few h.lawful r in
    let same : o.devices.items ≡ r.devices = same_items o.devices.items r.devices (sym devices ∙ r.here) in
    let items : o.reports.items ≡ slots.reports.items = ap (λ v. v.items) reports in
    let long = ap length items ∙ long_slots script h.order r.devices slots.reports.items slots.log.items r.to in
    record {
      devices = subst (λ (l : List Kept). AllZip Shows l (run script).devices) (sym same) replayed.devices_are;
      reports = subst (λ (l : List Report). AllZip Tells (map answer_of l) (reports_of (run script))) (sym items) replayed.right;
      each = long;
      about = subst (λ (l : List Report). AllByRecursion (IsAbout script) (map answer_of l)) (sym items) replayed.about;
      few = omega (arith, long, few);
      totals = totals ∙ totals_are script h.order slots share few h.lawful r;
      log = subst (λ (l : List Held). IsPermutation (run script).log (entries_of l)) (sym log) replayed.logged;
      sound = λ n. stays_sound_and_kept script n h.is;
    }

-- the ledger can count a script's commands
pub countable : (script : Contents) (t : Tally) → length script.commands ≤ max_commands → t ≡ tally_of script → IsCountable t
countable script t few same =
    let a = count_by-le-length (λ c. is_change (kind_of c)) script.commands in
    let b = count_by-le-length (λ c. is_pull (kind_of c)) script.commands in
    let d = count_by-le-length (λ c. is_question (kind_of c)) script.commands in
    let x = ap (λ (u : Tally). u.changes) same in
    let y = ap (λ (u : Tally). u.pulls) same in
    let z = ap (λ (u : Tally). u.reports) same in
    (omega (arith, few, a, x), omega (arith, few, b, y), omega (arith, few, d, z))
