-- Puts a batch's results back, one after another.
use Rattle.std.proofs.Common.{◌≡◌, ◌≢◌, ℕ, zero, suc, ◌+◌, ◌-◌, ◌<◌, ◌≤◌, ◌==◌, ◌⊎◌, inl, inr, cond, Bool, true, false, List, [], ◌∷◌, ◌++◌, length, get_or, set, map, refl, sym, ap, ◌∙◌, subst, append_assoc, append-nil, length-set, arith}
use Rattle.std.specs.Prelude.{Option, Some, None, IfSome, is_some, slice_get, Result, Ok, Err, OnOk, IsPermutation}
use Rattle.std.specs.List.{AllZip, AllByRecursion}
use Rattle.std.specs.Option.{option_map, option_to_list}
use Rattle.std.proofs.lemmas.List.{get_or-set_same, get_or-set_other, map-append}
use Rattle.std.proofs.lemmas.Bool.{or_left, or_right, eq-eqb, cases_eq}
use Rattle.std.proofs.lemmas.List.Sorted.{sum_by-IsPermutation}
use Rattle.std.proofs.lemmas.Option.{slice_get_within}
use Rattle.photo_filter_text.specs.Tree.{All}
use Rattle.photo_version.specs.Author.{author}
use Rattle.photo_version.specs.Author.{epoch_of_author}
use Rattle.photo_device.specs.declared.held.Held.{Held}
use Rattle.photo_device.specs.Held.{entry_of, entries_of}
use Rattle.photo_model.specs.Device.{ModelDevice, opening}
use Rattle.photo_device.specs.Device.{Kept, Shows}
use Rattle.fleet_model.specs.declared.command.Command.{Command}
use Rattle.photo_script.specs.declared.report.Report.{Report}
use Rattle.fleet_model.specs.Contents.{Contents, IsScript, command_of, devices_of, IsWithin}
use Rattle.fleet_model.specs.Runs.{device_at, with_second, run_in_order}
use Rattle.photo_batcher.specs.Related.{is_device, works_on, uses, AreRelated}
use Rattle.photo_batcher.proofs.Exchange.{used}
use Rattle.photo_batcher.specs.Orders.{times}
use Rattle.photo_batcher.proofs.Counting.{times_cons}
use Rattle.photo_batcher.proofs.Turns.{all_by_times, by_all_times, self_counts}
use Rattle.photo_batcher.proofs.Befores.{works_cases}
use Rattle.photo_batcher.proofs.Lasts.{works_first, works_second}
use Rattle.fleet_model.specs.Steps.{effect_on}
use Rattle.fleet_steps.specs.Between.{MayPull, AreReady}
use Rattle.fleet_workers.specs.Jobs.{ShowsSecond, MayWork, ShowsEffect, IsDone, IsReadyJob, IsDoneJob, AreReadyJobs, AreDoneJobs}
use Rattle.fleet_workers.specs.Batch.{IsSecondAt, IsJobAt, AreApart, AreOut, with_other, in_places, put_devices, all_devices, all_reports, all_logged, some_second, put_slots, all_slots, IsOfCommand}
use Rattle.fleet_steps.specs.Running.{RunsTo}
use Rattle.fleet_workers.specs.declared.work.Job.{Job}
use Rattle.fleet_workers.specs.declared.work.Done.{Done}
use Rattle.fleet_model.proofs.Zipped.{zip_at, zip_set}
use Rattle.fleet_steps.proofs.Between.{may_pull}
use Rattle.fleet_model.proofs.Effects.{all_at}
use Rattle.fleet_workers.proofs.Owned.{number_of}
use Rattle.fleet_steps.proofs.InOrder.{runs_more, runs_ready, runs_room}
use Rattle.fleet_steps.proofs.InAnyOrder.{moves_few_after}
use Rattle.fleet_model.specs.Limits.{max_commands}

-- no two of the commands are related
abbrev pub ArePairwise : Contents → List ℕ → Type 0
ArePairwise script [] = Unit {0}
ArePairwise script (n ∷ more) = AllByRecursion (λ m. AreRelated script n m → ⊥) more × ArePairwise script more

pairwise : (script : Contents) (order : List ℕ) → AreApart script order → ArePairwise script order
pairwise script [] apart = tt
pairwise script (x ∷ xs) apart = (
  all_by_times (λ m. AreRelated script x m → ⊥) xs (λ m stands.
      let here = times_cons x x xs in
      let there = times_cons m x xs in
      let self = self_counts x in
      let once = apart.once x in
      apart.apart x m (omega (arith, here, self)) (omega (arith, there, stands)) (λ same. let again = subst (λ n. 0 < times n xs) (sym same) stands in omega (arith, here, self, once, again))),
  pairwise script xs (record {
    once = λ n. let more = times_cons n x xs in let once = apart.once n in omega (arith, more, once);
    apart = λ m n a b. let one = times_cons m x xs in let two = times_cons n x xs in apart.apart m n (omega (arith, one, a)) (omega (arith, two, b));
  }),
)

-- commands that are apart stay so in any order
pub apart_permuted : (script : Contents) (xs ys : List ℕ) → IsPermutation xs ys → AreApart script xs → AreApart script ys
apart_permuted script xs ys perm apart =
    let same : (n : ℕ) → times n ys ≡ times n xs = λ n. sum_by-IsPermutation (λ k. cond (k == n) 1 0) xs ys perm in record {
      once = λ n. let once = apart.once n in let is = same n in omega (arith, once, is);
      apart = λ m n a b. let one = same m in let two = same n in apart.apart m n (omega (arith, one, a)) (omega (arith, two, b));
    }

-- the devices show what the command makes of the model devices
with_shown : (place : Option ℕ) (d : Option Kept) (m : Option ModelDevice) (devices : List Kept) (models : List ModelDevice) → AllZip Shows devices models → ShowsSecond d m → AllZip Shows (with_other place d devices) (with_second place m models)
with_shown None d m devices models all here = all
with_shown (Some k) None None devices models all here = all
with_shown (Some k) None (Some m) devices models all here = absurd here
with_shown (Some k) (Some d) None devices models all here = absurd here
with_shown (Some k) (Some d) (Some m) devices models all here = zip_set Shows devices models k d m all here

second_shown : (place : Option ℕ) (first : ℕ) (devices : List Kept) (models : List ModelDevice) (second : Option Kept) → AllZip Shows devices models → IfSome place (λ s. (s < length devices) × (s ≢ first)) → IsSecondAt place devices second → ShowsSecond second (option_map (device_at models) place)
second_shown None first devices models second all within is = subst (λ o. ShowsSecond o None) (sym is) tt
second_shown (Some k) first devices models second all within is =
    subst (λ o. ShowsSecond o (Some (device_at models k))) (sym is.1)
    (subst (λ x. Shows x (device_at models k)) (is.2 is.0) (zip_at Shows devices models k is.0 (opening (author k) All) all within.0))

first_shown : (script : Contents) (devices : List Kept) (models : List ModelDevice) (job : Job) (at : IsJobAt script devices job) → AllZip Shows devices models → Shows job.first (device_at models (devices_of at.command).0)
first_shown script devices models job at all =
    let k = (devices_of at.command).0 in
    subst (λ x. Shows x (device_at models k)) (at.first job.first) (zip_at Shows devices models k job.first (opening (author k) All) all at.within.0)

pub done_is : (script : Contents) (job : Job) (c : Command) (done : Done) → command_of script job.number ≡ Some c → IsDoneJob script job done → IsDone c job done
done_is script job c done is h = subst (λ o. IfSome o (λ x. IsDone x job done)) is h

-- if the devices showed some model devices, the result shows the effect on those
shows_effect : (script : Contents) (devices : List Kept) (models : List ModelDevice) (job : Job) (done : Done) (at : IsJobAt script devices job) → IsDoneJob script job done → AllZip Shows devices models → ShowsEffect done (effect_on models at.command)
shows_effect script devices models job done at h all =
    let c = at.command in
    (done_is script job c done at.is h).shows (device_at models (devices_of c).0) (option_map (device_at models) (devices_of c).1)
    (first_shown script devices models job at all) (second_shown (devices_of c).1 (devices_of c).0 devices models job.second all at.within.1 at.second)

some_number : (script : Contents) (n : ℕ) (c : Command) → command_of script n ≡ Some c → 0 < n
some_number script zero c is = cc
some_number script (suc n) c is = omega arith

at_place : (script : Contents) (n : ℕ) (c : Command) → command_of script n ≡ Some c → slice_get script.commands (n - 1) ≡ Some c
at_place script zero c is = cc
at_place script (suc n) c is = let place : suc n - 1 ≡ n = omega arith in ap (slice_get script.commands) place ∙ is

put_is : (script : Contents) (done : Done) (n : ℕ) (c : Command) (devices : List Kept) → done.number ≡ n → command_of script n ≡ Some c → put_devices script done devices ≡ in_places c done.first done.second devices
put_is script done n c devices same is = let here : command_of script done.number ≡ Some c = ap (command_of script) same ∙ is in rw here refl

-- putting one result back is one step of the run
pub put_one : (script : Contents) (front : List ℕ) (devices : List Kept) (reports : List Report) (log more : List Held) (job : Job) (done : Done) → RunsTo script front devices reports log → IsJobAt script devices job → IsDoneJob script job done
    → more ≡ log ++ option_to_list done.entry → RunsTo script (front ++ job.number ∷ []) (put_devices script done devices) (set reports (done.number - 1) done.report) more
put_one script front devices reports log more job done to at h logged =
    let c = at.command in
    let same : done.number ≡ job.number = (done_is script job c done at.is h).number in
    let new = in_places c done.first done.second devices in
    let within : IsWithin (length script.names) c = subst (λ n. IsWithin n c) to.long at.within in
    let put = put_is script done job.number c devices same at.is in
    subst (λ (l : List Kept). RunsTo script (front ++ job.number ∷ []) l (set reports (done.number - 1) done.report) more) (sym put)
    (subst (λ (n : ℕ). RunsTo script (front ++ job.number ∷ []) new (set reports (n - 1) done.report) more) (sym same)
    (runs_more script front job.number devices new reports log more c done.report (some_number script job.number c at.is) to (at_place script job.number c at.is) within
    (λ models all.
    let e = shows_effect script devices models job done at h all in
    with_shown (devices_of c).1 done.second (effect_on models c).second (set devices (devices_of c).0 done.first) (set models (devices_of c).0 (effect_on models c).first) (zip_set Shows devices models (devices_of c).0 done.first (effect_on models c).first all e.first) e.second)
    (λ models all. (shows_effect script devices models job done at h all).report)
    (λ models all.
    let e = shows_effect script devices models job done at h all in
    ap entries_of logged ∙ map-append entry_of log (option_to_list done.entry) ∙ ap (λ l. entries_of log ++ l) e.entries)))

-- putting a result back keeps the list's length, and an unrelated job as it was

with_long : {X : Type 0} (place : Option ℕ) (second : Option X) (xs : List X) → length (with_other place second xs) ≡ length xs
with_long None second xs = refl
with_long (Some k) None xs = refl
with_long (Some k) (Some x) xs = length-set xs k x

pub in_places_long : {X : Type 0} (c : Command) (first : X) (second : Option X) (xs : List X) → length (in_places c first second xs) ≡ length xs
in_places_long c first second xs = with_long (devices_of c).1 second (set xs (devices_of c).0 first) ∙ length-set xs (devices_of c).0 first

with_others : {X : Type 0} (place : Option ℕ) (second : Option X) (xs : List X) (k : ℕ) (x : X) → (is_device place k ≡ true → ⊥) → get_or (with_other place second xs) k x ≡ get_or xs k x
with_others None second xs k x not = refl
with_others (Some s) None xs k x not = refl
with_others (Some s) (Some y) xs k x not = get_or-set_other xs s k y x (λ e. not (eq-eqb s k (sym e)))

pub in_places_others : {X : Type 0} (c : Command) (first : X) (second : Option X) (xs : List X) (k : ℕ) (x : X) → (works_on c k ≡ true → ⊥) → get_or (in_places c first second xs) k x ≡ get_or xs k x
in_places_others c first second xs k x not =
    with_others (devices_of c).1 second (set xs (devices_of c).0 first) k x (λ e. not (or_right _ _ e))
    ∙ get_or-set_other xs (devices_of c).0 k first x (λ e. not (or_left _ _ (eq-eqb (devices_of c).0 k (sym e))))

still_at : (script : Contents) (devices : List Kept) (n : ℕ) (c : Command) (first : Kept) (second : Option Kept) (other : Job) → command_of script n ≡ Some c → (AreRelated script n other.number → ⊥) → IsJobAt script devices other → IsJobAt script (in_places c first second devices) other
still_at script devices n c first second other is apart at =
    let e = at.command in
    let not : (k : ℕ) → works_on e k ≡ true → works_on c k ≡ true → ⊥ = λ k theirs mine. apart (record { device = k; first = used script n k c is mine; second = used script other.number k e at.is theirs }) in
    record {
      command = e;
      is = at.is;
      within = subst (λ (m : ℕ). IsWithin m e) (sym (in_places_long c first second devices)) at.within;
      first = λ x. in_places_others c first second devices (devices_of e).0 x (not (devices_of e).0 (works_first e)) ∙ at.first x;
      second = by_cases (devices_of e).1 refl at.second not;
    }
  where
    by_cases : (place : Option ℕ) → (devices_of at.command).1 ≡ place → IsSecondAt place devices other.second → ((k : ℕ) → works_on at.command k ≡ true → works_on c k ≡ true → ⊥) → IsSecondAt place (in_places c first second devices) other.second
    by_cases None same there not = there
    by_cases (Some k) same there not = (there.0, there.1, λ x. in_places_others c first second devices k x (not k (works_second at.command k same)) ∙ there.2 x)

all_still : (script : Contents) (devices : List Kept) (n : ℕ) (c : Command) (first : Kept) (second : Option Kept) (jobs : List Job) → command_of script n ≡ Some c → AllByRecursion (λ m. AreRelated script n m → ⊥) (map (λ j. j.number) jobs) → AllByRecursion (IsJobAt script devices) jobs → AllByRecursion (IsJobAt script (in_places c first second devices)) jobs
all_still script devices n c first second [] is apart at = tt
all_still script devices n c first second (j ∷ js) is apart at = (still_at script devices n c first second j is apart.0 at.0, all_still script devices n c first second js is apart.1 at.1)

-- putting all results back is a run of the jobs' commands, in the order in which they are put back
pub put_all : (script : Contents) (front : List ℕ) (devices : List Kept) (reports : List Report) (log : List Held) (jobs : List Job) (done : List Done) → RunsTo script front devices reports log → AllByRecursion (IsJobAt script devices) jobs → ArePairwise script (map (λ j. j.number) jobs) → AreDoneJobs script jobs done
    → RunsTo script (front ++ map (λ j. j.number) jobs) (all_devices script done devices) (all_reports done reports) (all_logged done log)
put_all script front devices reports log [] [] to at apart h = subst (λ (l : List ℕ). RunsTo script l devices reports log) (sym (append-nil front)) to
put_all script front devices reports log [] (d ∷ ds) to at apart h = absurd h
put_all script front devices reports log (j ∷ js) [] to at apart h = absurd h
put_all script front devices reports log (j ∷ js) (d ∷ ds) to at apart h =
    let here : IsJobAt script devices j = at.0 in
    let c = here.command in
    let same : d.number ≡ j.number = (done_is script j c d here.is h.0).number in
    let put = put_is script d j.number c devices same here.is in
    let next = put_one script front devices reports log (log ++ option_to_list d.entry) j d to here h.0 refl in
    let rest = subst (λ (l : List Kept). AllByRecursion (IsJobAt script l) js) (sym put) (all_still script devices j.number c d.first d.second js here.is apart.0 at.1) in
    subst (λ (l : List ℕ). RunsTo script l (all_devices script ds (put_devices script d devices)) (all_reports ds (set reports (d.number - 1) d.report)) (all_logged ds (log ++ option_to_list d.entry))) (append_assoc front (j.number ∷ []) (map (λ j. j.number) js))
    (put_all script (front ++ j.number ∷ []) (put_devices script d devices) (set reports (d.number - 1) d.report) (log ++ option_to_list d.entry) js ds next rest apart.1 h.1)

-- devices that are ready and have room give a job what it needs

may_work : (place : Option ℕ) (k : ℕ) (devices : List Kept) (first : Kept) (second : Option Kept) → AreReady devices → k < length devices → ((x : Kept) → get_or devices k x ≡ first) → IfSome place (λ s. (s < length devices) × (s ≢ k)) → IsSecondAt place devices second → MayWork place first second
may_work None k devices first second ready below is within there = subst (MayWork None first) (sym there) tt
may_work (Some s) k devices first second ready below is within there =
    subst (MayWork (Some s) first) (sym there.1)
    (subst (λ x. MayPull x there.0) (is first) (subst (MayPull (get_or devices k first)) (there.2 there.0) (may_pull devices k s first there.0 ready below within.0 within.1)))

pub ready_job : (script : Contents) (front : List ℕ) (devices : List Kept) (reports : List Report) (log : List Held) (job : Job) → IsScript script → RunsTo script front devices reports log → length front ≤ max_commands → IsJobAt script devices job → IsReadyJob script job
ready_job script front devices reports log job is to few at =
    let c = at.command in
    let k = (devices_of c).0 in
    let models = (run_in_order script front).devices in
    let room = runs_room script front devices reports log (omega (arith, few)) to in
    let here = all_at (λ d. (d.counter < 4_294_967_295) × (epoch_of_author d.author < 4_294_967_295)) devices k job.first room at.within.0 in (
      c,
      at.is,
      record {
        room = subst (λ (d : Kept). d.counter < 4_294_967_295) (at.first job.first) here.0;
        epoch = subst (λ (d : Kept). epoch_of_author d.author < 4_294_967_295) (at.first job.first) here.1;
        second = may_work (devices_of c).1 k devices job.first job.second (runs_ready script front devices reports log is (omega (arith, few)) to) at.within.0 at.first at.within.1 at.second;
        model = device_at models k;
        other = option_map (device_at models) (devices_of c).1;
        shown = first_shown script devices models job at to.shown;
        other_shown = second_shown (devices_of c).1 k devices models job.second to.shown at.within.1 at.second;
        few = moves_few_after script front c is few (subst (λ (n : ℕ). IsWithin n c) to.long at.within);
      },
    )

pub ready_jobs : (script : Contents) (front : List ℕ) (devices : List Kept) (reports : List Report) (log : List Held) (jobs : List Job) → IsScript script → RunsTo script front devices reports log → length front ≤ max_commands → AllByRecursion (IsJobAt script devices) jobs → AreReadyJobs script jobs
ready_jobs script front devices reports log [] is to few at = tt
ready_jobs script front devices reports log (j ∷ js) is to few at = (ready_job script front devices reports log j is to few at.0, ready_jobs script front devices reports log js is to few at.1)

-- the code writes the results that the definitions put back

pub always : {A E : Type 0} (r : Result A E) (P : Type 0) → P → OnOk r P
always (Ok a) P p = p
always (Err e) P p = tt

pub slots_are : (script : Contents) (done : Done) (c : Command) (slots one two : List (Option Kept)) (place : ℕ) (other : Option ℕ) → 0 < done.number → slice_get script.commands (done.number - 1) ≡ Some c → place ≡ (devices_of c).0 → other ≡ (devices_of c).1
    → one ≡ set slots place (Some done.first) → two ≡ with_other other (some_second done.second) one → two ≡ put_slots script done slots
slots_are script done c slots one two place other some is p o first second =
    let here : command_of script done.number ≡ Some c = number_of script done.number c some is in
    let whole : two ≡ in_places c (Some done.first) (some_second done.second) slots = second ∙ (λ i. with_other (o i) (some_second done.second) (first i)) ∙ ap (λ k. with_other (devices_of c).1 (some_second done.second) (set slots k (Some done.first))) p in
    rw here whole

pub of_commands : (script : Contents) (jobs : List Job) (done : List Done) → AreReadyJobs script jobs → AreDoneJobs script jobs done → AllByRecursion (IsOfCommand script) done
of_commands script [] [] ready h = tt
of_commands script [] (d ∷ ds) ready h = absurd h
of_commands script (j ∷ js) [] ready h = absurd h
of_commands script (j ∷ js) (d ∷ ds) ready h =
    let c = ready.0.0 in
    let is = ready.0.1 in
    let same : d.number ≡ j.number = (done_is script j c d is h.0).number in
    let some = some_number script j.number c is in
    let within = slice_get_within script.commands (j.number - 1) c (at_place script j.number c is) in
    ((omega (arith, same), omega (arith, same, within)), of_commands script js ds ready.1 h.1)

-- all devices are back in their slots

-- the job has its command, and a second device exactly where the command has one
abbrev HasBoth : Contents → Job → Type 0
HasBoth script job = (c : Command) × (command_of script job.number ≡ Some c) × IsWithin (length script.names) c × (is_some job.second ≡ is_some (devices_of c).1)

has_both : (script : Contents) (devices : List Kept) (job : Job) → length devices ≡ length script.names → IsJobAt script devices job → HasBoth script job
has_both script devices job long at = (at.command, at.is, subst (λ n. IsWithin n at.command) long at.within, by_cases (devices_of at.command).1 at.second)
  where
    by_cases : (o : Option ℕ) → IsSecondAt o devices job.second → is_some job.second ≡ is_some o
    by_cases None is = ap is_some is
    by_cases (Some k) is = ap is_some is.1

have_both : (script : Contents) (devices : List Kept) (jobs : List Job) → length devices ≡ length script.names → AllByRecursion (IsJobAt script devices) jobs → AllByRecursion (HasBoth script) jobs
have_both script devices [] long at = tt
have_both script devices (j ∷ js) long at = (has_both script devices j long at.0, have_both script devices js long at.1)

back_at : (o : Option ℕ) (p k : ℕ) (first : Kept) (second : Option Kept) (xs : List Kept) (ys : List (Option Kept)) → length ys ≡ length xs → p < length xs → IfSome o (λ s. (s < length xs) × (s ≢ p)) → is_some second ≡ is_some o → (p ≡ k) ⊎ (o ≡ Some k)
    → (x : Option Kept) (d : Kept) → get_or (with_other o (some_second second) (set ys p (Some first))) k x ≡ Some (get_or (with_other o second (set xs p first)) k d)
back_at None p k first None xs ys long below within both (inl e) x d =
    subst (λ j. get_or (set ys p (Some first)) j x ≡ Some (get_or (set xs p first) j d)) e (get_or-set_same ys p (Some first) x (omega (arith, long, below)) ∙ ap Some (sym (get_or-set_same xs p first d below)))
back_at None p k first None xs ys long below within both (inr e) x d = cc
back_at None p k first (Some y) xs ys long below within both works x d = cc
back_at (Some s) p k first None xs ys long below within both works x d = cc
back_at (Some s) p k first (Some y) xs ys long below within both works x d = elim (cases_eq s k) [
  | inl e ↦
      let inner : length (set ys p (Some first)) ≡ length ys = length-set ys p (Some first) in
      let inner' : length (set xs p first) ≡ length xs = length-set xs p first in
      let here = within.0 in
      subst (λ j. get_or (set (set ys p (Some first)) s (Some y)) j x ≡ Some (get_or (set (set xs p first) s y) j d)) e
      (get_or-set_same (set ys p (Some first)) s (Some y) x (omega (arith, inner, long, here)) ∙ ap Some (sym (get_or-set_same (set xs p first) s y d (omega (arith, inner', here)))))
  | inr other ↦
      get_or-set_other (set ys p (Some first)) s k (Some y) x (λ e. other (sym e)) ∙ first_at works other ∙ ap Some (sym (get_or-set_other (set xs p first) s k y d (λ e. other (sym e))))
]
  where
    first_at : (p ≡ k) ⊎ (Some s ≡ Some k) → (s ≡ k → ⊥) → get_or (set ys p (Some first)) k x ≡ Some (get_or (set xs p first) k d)
    first_at (inl e) other = subst (λ j. get_or (set ys p (Some first)) j x ≡ Some (get_or (set xs p first) j d)) e (get_or-set_same ys p (Some first) x (omega (arith, long, below)) ∙ ap Some (sym (get_or-set_same xs p first d below)))
    first_at (inr e) other = absurd (other cc)

back_in : (script : Contents) (n : ℕ) (rest : List ℕ) (c : Command) (first : Kept) (second : Option Kept) (devices : List Kept) (slots : List (Option Kept)) → command_of script n ≡ Some c → IsWithin (length devices) c → is_some second ≡ is_some (devices_of c).1
    → AreOut script (n ∷ rest) devices slots → AreOut script rest (in_places c first second devices) (in_places c (Some first) (some_second second) slots)
back_in script n rest c first second devices slots is within both out = record {
  long = in_places_long c (Some first) (some_second second) slots ∙ out.long ∙ sym (in_places_long c first second devices);
  here = λ k below free x d. by_case k (works_on c k) refl below free x d;
}
  where
    by_case : (k : ℕ) (b : Bool) → works_on c k ≡ b → k < length (in_places c first second devices) → AllByRecursion (λ m. uses script m k ≡ false) rest → (x : Option Kept) (d : Kept) → get_or (in_places c (Some first) (some_second second) slots) k x ≡ Some (get_or (in_places c first second devices) k d)
    by_case k true works below free x d = back_at (devices_of c).1 (devices_of c).0 k first second devices slots out.long within.0 within.1 both (works_cases c k works) x d
    by_case k false works below free x d =
        let not : works_on c k ≡ true → ⊥ = λ e. let e' : false ≡ true = sym works ∙ e in cc in
        let unused : uses script n k ≡ false = (let same : uses script n k ≡ works_on c k = rw is refl in same) ∙ works in
        let long = in_places_long c first second devices in
        in_places_others c (Some first) (some_second second) slots k x not ∙ out.here k (omega (arith, below, long)) (unused, free) x d ∙ ap Some (sym (in_places_others c first second devices k d not))

all_there : (slots : List (Option Kept)) (devices : List Kept) → length slots ≡ length devices → ((k : ℕ) → k < length devices → (x : Option Kept) (d : Kept) → get_or slots k x ≡ Some (get_or devices k d)) → slots ≡ map Some devices
all_there [] [] long at = refl
all_there [] (d ∷ ds) long at = absurd (omega arith)
all_there (s ∷ ss) [] long at = absurd (omega arith)
all_there (s ∷ ss) (d ∷ ds) long at =
    let head : s ≡ Some d = at 0 (omega arith) s d in
    let tail : ss ≡ map Some ds = all_there ss ds (omega (arith, long)) (λ k below. at (suc k) (omega (arith, below))) in
    λ i. head i ∷ tail i

put_slots_is : (script : Contents) (done : Done) (n : ℕ) (c : Command) (slots : List (Option Kept)) → done.number ≡ n → command_of script n ≡ Some c → put_slots script done slots ≡ in_places c (Some done.first) (some_second done.second) slots
put_slots_is script done n c slots same is = let here : command_of script done.number ≡ Some c = ap (command_of script) same ∙ is in rw here refl

all_in : (script : Contents) (jobs : List Job) (done : List Done) (devices : List Kept) (slots : List (Option Kept)) → length devices ≡ length script.names → AllByRecursion (HasBoth script) jobs → AreDoneJobs script jobs done → AreOut script (map (λ j. j.number) jobs) devices slots → all_slots script done slots ≡ map Some (all_devices script done devices)
all_in script [] [] devices slots long both h out = all_there slots devices out.long (λ k below x d. out.here k below tt x d)
all_in script [] (d ∷ ds) devices slots long both h out = absurd h
all_in script (j ∷ js) [] devices slots long both h out = absurd h
all_in script (j ∷ js) (d ∷ ds) devices slots long both h out =
    let c = both.0.0 in
    let is = both.0.1 in
    let done = done_is script j c d is h.0 in
    let put = put_is script d j.number c devices done.number is in
    let slot = put_slots_is script d j.number c slots done.number is in
    let back = back_in script j.number (map (λ j. j.number) js) c d.first d.second devices slots is (subst (λ n. IsWithin n c) (sym long) both.0.2) (done.both ∙ both.0.3) out in
    let longer : length (put_devices script d devices) ≡ length script.names = ap length put ∙ in_places_long c d.first d.second devices ∙ long in
    all_in script js ds (put_devices script d devices) (put_slots script d slots) longer both.1 h.1
    (subst (λ (l : List (Option Kept)). AreOut script (map (λ j. j.number) js) (put_devices script d devices) l) (sym slot)
    (subst (λ (l : List Kept). AreOut script (map (λ j. j.number) js) l (in_places c (Some d.first) (some_second d.second) slots)) (sym put) back))

-- the slots have all devices again
pub all_back_in : (script : Contents) (jobs : List Job) (done : List Done) (devices : List Kept) (slots : List (Option Kept)) → length devices ≡ length script.names → AllByRecursion (IsJobAt script devices) jobs → AreDoneJobs script jobs done → AreOut script (map (λ j. j.number) jobs) devices slots → all_slots script done slots ≡ map Some (all_devices script done devices)
all_back_in script jobs done devices slots long at h out = all_in script jobs done devices slots long (have_both script devices jobs long at) h out

-- in any order of the commands, the same devices are out
pub out_permuted : (script : Contents) (xs ys : List ℕ) (devices : List Kept) (slots : List (Option Kept)) → IsPermutation xs ys → AreOut script xs devices slots → AreOut script ys devices slots
out_permuted script xs ys devices slots perm out = record {
  long = out.long;
  here = λ k below free. out.here k below (all_by_times (λ m. uses script m k ≡ false) xs (λ m stands. by_all_times (λ m. uses script m k ≡ false) ys m free (let same = sum_by-IsPermutation (λ j. cond (j == m) 1 0) xs ys perm in omega (arith, same, stands))));
}

pub put_batch : (script : Contents) (front members : List ℕ) (devices : List Kept) (reports : List Report) (log : List Held) (jobs : List Job) (done : List Done) → RunsTo script front devices reports log → AllByRecursion (IsJobAt script devices) jobs → AreApart script members → IsPermutation members (map (λ j. j.number) jobs) → AreDoneJobs script jobs done
    → RunsTo script (front ++ map (λ j. j.number) jobs) (all_devices script done devices) (all_reports done reports) (all_logged done log)
put_batch script front members devices reports log jobs done to at apart perm h = put_all script front devices reports log jobs done to at (pairwise script (map (λ j. j.number) jobs) (apart_permuted script members (map (λ j. j.number) jobs) perm apart)) h
