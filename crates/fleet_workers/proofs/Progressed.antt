-- After one more batch has run.
use Rattle.std.proofs.Common.{◌≡◌, ℕ, ◌+◌, ◌-◌, ◌≤◌, List, [], ◌∷◌, ◌++◌, length, map, replicate, refl, sym, ap, ◌∙◌, subst, arith}
use Rattle.std.specs.Prelude.{Option, Some, IsPermutation, Vec}
use Rattle.std.proofs.lemmas.List.{map-append, length-map}
use Rattle.photo_device.specs.Device.{Kept}
use Rattle.fleet_model.specs.Limits.{max_commands}
use Rattle.fleet_model.specs.declared.tally.Tally.{Tally}
use Rattle.fleet_model.specs.declared.tally.Totals.{Totals}
use Rattle.photo_script.specs.declared.report.Report.{Report}
use Rattle.photo_script.specs.declared.report.Report.TheVariants.{NotHeld}
use Rattle.fleet_model.specs.Contents.{Contents, IsScript}
use Rattle.fleet_model.specs.Tallies.{tally_of}
use Rattle.work_ledger.specs.Ledgers.{all_parts}
use Rattle.work_ledger.specs.Stakes.{Stake, stake, plus, less, both}
use Rattle.fleet_steps.specs.Running.{RunsTo}
use Rattle.fleet_steps.proofs.InOrder.{long_slots}
use Rattle.fleet_workers.specs.declared.work.Job.{Job}
use Rattle.fleet_workers.specs.declared.work.Done.{Done}
use Rattle.fleet_workers.specs.declared.slots.Slots.{Slots}
use Rattle.fleet_workers.specs.Jobs.{AreReadyJobs, AreDoneJobs, jobs_of, numbers_of}
use Rattle.fleet_workers.specs.Batch.{AreApart, all_slots, all_devices, all_reports, all_logged}
use Rattle.fleet_workers.specs.Dealing.{IsDealt}
use Rattle.fleet_workers.specs.Counting.{tally_at, worked, moved_in}
use Rattle.fleet_workers.specs.Progress.{HasRun}
use Rattle.fleet_workers.proofs.Counting.{tally_same, tally-append, moved-append}
use Rattle.fleet_workers.proofs.Batched.{done_is, put_batch, all_back_in, out_permuted, ready_jobs}

pub long_here : (script : Contents) (front : List ℕ) (slots : Slots) (share : Stake) → HasRun script front slots share → length slots.devices.items ≡ length script.names
long_here script front slots share r = ap length r.here ∙ length-map r.devices Some ∙ r.to.long

pub long_reports : (script : Contents) (front : List ℕ) (slots : Slots) (share : Stake) → HasRun script front slots share → length slots.reports.items ≡ length script.commands
long_reports script front slots share r = long_slots script front r.devices slots.reports.items slots.log.items r.to

pub ready_groups : {Z : Type 0} (script : Contents) (front members : List ℕ) (slots : Slots) (mid : List (Option Kept)) (share : Stake) (count : ℕ) (groups : List (Vec Job Z)) → IsScript script → length front ≤ max_commands → (r : HasRun script front slots share) → IsDealt script members r.devices count groups mid → AreReadyJobs script (jobs_of groups)
ready_groups script front members slots mid share count groups is few r dealt = ready_jobs script front r.devices slots.reports.items slots.log.items (jobs_of groups) is r.to few dealt.each

done_numbers : (script : Contents) (jobs : List Job) (done : List Done) → AreReadyJobs script jobs → AreDoneJobs script jobs done → map (λ (d : Done). d.number) done ≡ numbers_of jobs
done_numbers script [] [] ready h = refl
done_numbers script [] (d ∷ ds) ready h = absurd h
done_numbers script (j ∷ js) [] ready h = absurd h
done_numbers script (j ∷ js) (d ∷ ds) ready h =
    let head = (done_is script j ready.0.0 d ready.0.1 h.0).number in
    let tail = done_numbers script js ds ready.1 h.1 in
    λ i. head i ∷ tail i

reports_both : (xs ys : List Done) (reports : List Report) → all_reports (xs ++ ys) reports ≡ all_reports ys (all_reports xs reports)
reports_both [] ys reports = refl
reports_both (x ∷ xs) ys reports = reports_both xs ys _

stake_is : (p : ℕ) (t t' : Tally) (d d' : Totals) → t ≡ t' → d ≡ d' → stake p t d ≡ stake p t' d'
stake_is p t t' d d' e f = λ i. stake p (e i) (f i)

counted_more : (all front batch : Tally) (a b : ℕ) (share after : Stake) → share ≡ stake all_parts (less all front) (worked front a) → after ≡ stake share.parts (less share.left batch) (both share.done (worked batch b)) → after ≡ stake all_parts (less all (plus front batch)) (worked (plus front batch) (a + b))
counted_more all front batch a b share after was now =
    now ∙ (λ i. stake (was i).parts (less (was i).left batch) (both (was i).done (worked batch b)))
    ∙ stake_is all_parts _ _ _ _ (tally_same _ _ _ _ _ _ (omega arith) (omega arith) (omega arith)) refl

pub after_batch : {Z : Type 0} (script : Contents) (front members : List ℕ) (old new : Slots) (mid : List (Option Kept)) (share after : Stake) (count : ℕ) (groups : List (Vec Job Z)) (done : List Done)
    → IsScript script → length front ≤ max_commands → AreApart script members → (r : HasRun script front old share) → IsDealt script members r.devices count groups mid → AreDoneJobs script (jobs_of groups) done
    → new.devices.items ≡ all_slots script done mid → new.reports.items ≡ all_reports done old.reports.items → new.log.items ≡ all_logged done old.log.items
    → after ≡ stake share.parts (less share.left (tally_at script (numbers_of (jobs_of groups)))) (both share.done (worked (tally_at script (numbers_of (jobs_of groups))) (moved_in done)))
    → (order : List ℕ) × IsPermutation members order × HasRun script (front ++ order) new after
after_batch script front members old new mid share after count groups done is few apart r dealt h slots reports log counted =
    let jobs = jobs_of groups in
    let order = numbers_of jobs in
    let put = put_batch script front members r.devices old.reports.items old.log.items jobs done r.to dealt.each apart dealt.all h in
    let back = all_back_in script jobs done r.devices mid r.to.long dealt.each h (out_permuted script members order r.devices mid dealt.all dealt.out) in
    let ready = ready_groups script front members old mid share count groups is few r dealt in
    let numbers = done_numbers script jobs done ready h in
    let tally : tally_at script (front ++ order) ≡ plus (tally_at script front) (tally_at script order) = tally-append script front order in
    let moved : moved_in (r.done ++ done) ≡ moved_in r.done + moved_in done = moved-append r.done done in (
      order,
      dealt.all,
      record {
        devices = all_devices script done r.devices;
        here = slots ∙ back;
        to = subst (λ (l : List Report). RunsTo script (front ++ order) (all_devices script done r.devices) l new.log.items) (sym reports) (subst (RunsTo script (front ++ order) (all_devices script done r.devices) (all_reports done old.reports.items)) (sym log) put);
        done = r.done ++ done;
        numbers = map-append (λ (d : Done). d.number) r.done done ∙ (λ i. r.numbers i ++ numbers i);
        reports = reports ∙ ap (all_reports done) r.reports ∙ sym (reports_both r.done done (replicate (length script.commands) NotHeld));
        counted = counted_more (tally_of script) (tally_at script front) (tally_at script order) (moved_in r.done) (moved_in done) share after r.counted counted
            ∙ (λ i. stake all_parts (less (tally_of script) (sym tally i)) (worked (sym tally i) (sym moved i)));
      },
    )
