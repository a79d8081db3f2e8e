-- The jobs of all groups, in order.
use Rattle.std.proofs.Common.{◌≡◌, ℕ, zero, suc, ◌<◌, ◌≤◌, ◌-◌, length, List, [], ◌∷◌, ◌++◌, sym, ap, ◌∙◌, subst, arith, append-nil}
use Rattle.std.specs.Prelude.{Some, IfSome, slice_get, Vec}
use Rattle.std.proofs.lemmas.Option.{slice_get_within}
use Rattle.std.proofs.lemmas.List.Concat.{flat_map-append}
use Rattle.fleet_model.specs.declared.command.Command.{Command}
use Rattle.fleet_model.specs.Contents.{Contents, command_of}
use Rattle.fleet_workers.specs.Jobs.{IsFor, IsDone, IsReadyJob, IsDoneJob, AreReadyJobs, AreDoneJobs, jobs_of}
use Rattle.fleet_workers.specs.declared.work.Job.{Job}
use Rattle.fleet_workers.specs.declared.work.Done.{Done}

pub ready_command : (script : Contents) (job : Job) (c : Command) → IsReadyJob script job → command_of script job.number ≡ Some c → IsFor c job
ready_command script job c ready is =
    let same : ready.0 ≡ c = some_is (sym ready.1 ∙ is) in
    subst (λ x. IsFor x job) same ready.2
  where
    some_is : {x y : Command} → Some x ≡ Some y → x ≡ y
    some_is e = cc

pub number_of : (script : Contents) (n : ℕ) (c : Command) → 0 < n → slice_get script.commands (n - 1) ≡ Some c → command_of script n ≡ Some c
number_of script zero c some is = absurd (omega arith)
number_of script (suc n) c some is = let place : suc n - 1 ≡ n = omega arith in ap (slice_get script.commands) (sym place) ∙ is

pub done_job : (script : Contents) (job : Job) (c : Command) (done : Done) → command_of script job.number ≡ Some c → IsDone c job done → IsDoneJob script job done
done_job script job c done is by = subst (λ o. IfSome o (λ x. IsDone x job done)) (sym is) by

pub ready_left : (script : Contents) (xs ys : List Job) → AreReadyJobs script (xs ++ ys) → AreReadyJobs script xs
ready_left script [] ys all = tt
ready_left script (x ∷ xs) ys all = (all.0, ready_left script xs ys all.1)

pub ready_right : (script : Contents) (xs ys : List Job) → AreReadyJobs script (xs ++ ys) → AreReadyJobs script ys
ready_right script [] ys all = all
ready_right script (x ∷ xs) ys all = ready_right script xs ys all.1

pub done_both : (script : Contents) (xs ys : List Job) (ds es : List Done) → AreDoneJobs script xs ds → AreDoneJobs script ys es → AreDoneJobs script (xs ++ ys) (ds ++ es)
done_both script [] ys [] es a b = b
done_both script [] ys (d ∷ ds) es a b = absurd a
done_both script (x ∷ xs) ys [] es a b = absurd a
done_both script (x ∷ xs) ys (d ∷ ds) es a b = (a.0, done_both script xs ys ds es a.1 b)

-- the last group's jobs are at the end
pub jobs_of-last : {Z : Type 0} (groups : List (Vec Job Z)) (last : Vec Job Z) → jobs_of (groups ++ last ∷ []) ≡ jobs_of groups ++ last.items
jobs_of-last groups last =
    flat_map-append (λ v. v.items) groups (last ∷ []) ∙ ap (λ xs. jobs_of groups ++ xs) (append-nil last.items)

pub numbered : (script : Contents) (job : Job) → IsReadyJob script job → 0 < job.number
numbered script job ready = by_cases job.number ready.1
  where
    by_cases : (n : ℕ) → command_of script n ≡ Some ready.0 → 0 < n
    by_cases zero is = cc
    by_cases (suc n) is = omega arith

pub within_script : (script : Contents) (job : Job) → IsReadyJob script job → job.number ≤ length script.commands
within_script script job ready = by_cases job.number ready.1
  where
    by_cases : (n : ℕ) → command_of script n ≡ Some ready.0 → n ≤ length script.commands
    by_cases zero is = omega arith
    by_cases (suc n) is = let below = slice_get_within script.commands n ready.0 is in omega (arith, below)
