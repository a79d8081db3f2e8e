-- What a worker has run and counted: before its first job, after each, and after all.
use Rattle.std.proofs.Common.{◌≡◌, ℕ, ◌+◌, ◌-◌, List, [], ◌∷◌, ◌++◌, refl, sym, ap, ◌∙◌, subst, arith}
use Rattle.std.specs.Prelude.{Some, slice_get}
use Rattle.fleet_model.specs.declared.tally.Tally.{Tally}
use Rattle.fleet_model.specs.declared.tally.Totals.{Totals}
use Rattle.fleet_model.specs.declared.command.Command.{Command}
use Rattle.fleet_model.specs.Contents.{Contents, command_of}
use Rattle.photo_script.specs.Reports.{answer_of}
use Rattle.fleet_model.specs.Tallies.{kind_of}
use Rattle.work_ledger.specs.Stakes.{Stake, stake, plus, less, both}
use Rattle.work_ledger.specs.Counting.{CanCount, counted}
use Rattle.fleet_workers.specs.Counting.{kind_told, tally_at, worked, moved_in}
use Rattle.fleet_workers.specs.Jobs.{IsFor, IsDone, IsReadyJob, AreReadyJobs, MayStart, HasWorked, numbers_of}
use Rattle.fleet_workers.specs.declared.work.Job.{Job}
use Rattle.fleet_workers.specs.declared.work.Done.{Done}
use Rattle.fleet_workers.proofs.Owned.{ready_right, number_of, numbered, done_job, done_both}
use Rattle.fleet_workers.proofs.Counting.{CountsAs, counts_as, may_count, has_counted, moved-append, tally_same, totals_same}
use Rattle.fleet_workers.proofs.Crewed.{tally_jobs}

-- a job's result counts as its command's kind
job_counts : (c : Command) (job : Job) (d : Done) → IsFor c job → IsDone c job d → CountsAs (kind_of c) (answer_of d.report)
job_counts c job d is done = counts_as c is.model is.other (answer_of d.report) is.few (done.shows is.model is.other is.shown is.other_shown).report

-- the command of a ready job
pub command_here : (script : Contents) (job : Job) (c : Command) → IsReadyJob script job → slice_get script.commands (job.number - 1) ≡ Some c → command_of script job.number ≡ Some c
command_here script job c ready at = number_of script job.number c (numbered script job ready) at

pub job_countable : (script : Contents) (job : Job) (c : Command) (d : Done) (share : Stake) → command_of script job.number ≡ Some c → IsFor c job → IsDone c job d → MayStart script (job ∷ []) share → CanCount (kind_told (answer_of d.report)) share.left
job_countable script job c d share is ready done start = may_count script job.number c (answer_of d.report) share.left is (job_counts c job d ready done) start.1

pub has_worked : (script : Contents) (job : Job) (c : Command) (d : Done) (share new : Stake) → command_of script job.number ≡ Some c → IsFor c job → IsDone c job d → MayStart script (job ∷ []) share → new ≡ counted (kind_told (answer_of d.report)) share → HasWorked script (job ∷ []) (d ∷ []) share new
has_worked script job c d share new is ready done start now =
    ((done_job script job c d is done, tt), has_counted script job.number c d share new is (job_counts c job d ready done) start.1 now)

stake_is : (p : ℕ) (t t' : Tally) (d d' : Totals) → t ≡ t' → d ≡ d' → stake p t d ≡ stake p t' d'
stake_is p t t' d d' e f = λ i. stake p (e i) (f i)

pub worked_none : (script : Contents) (s : Stake) → HasWorked script [] [] s s
worked_none script s = (tt, stake_is s.parts _ _ _ _ (tally_same _ _ _ _ _ _ (omega arith) (omega arith) (omega arith)) (totals_same _ _ _ _ _ _ _ _ (omega arith) (omega arith) (omega arith) (omega arith)))

-- after some jobs and then others
pub worked_both : (script : Contents) (xs ys : List Job) (ds es : List Done) (s now new : Stake) → HasWorked script xs ds s now → HasWorked script ys es now new → HasWorked script (xs ++ ys) (ds ++ es) s new
worked_both script xs ys ds es s now new a b =
    let first = tally_at script (numbers_of xs) in
    let then_ = tally_at script (numbers_of ys) in
    let all : tally_at script (numbers_of (xs ++ ys)) ≡ plus first then_ = tally_jobs script (xs ++ ys) xs ys refl in
    let moved : moved_in (ds ++ es) ≡ moved_in ds + moved_in es = moved-append ds es in (
      done_both script xs ys ds es a.0 b.0,
      b.1 ∙ (λ i. stake (a.1 i).parts (less (a.1 i).left then_) (both (a.1 i).done (worked then_ (moved_in es))))
          ∙ stake_is s.parts _ (less s.left (plus first then_)) _ (both s.done (worked (plus first then_) (moved_in ds + moved_in es))) (tally_same _ _ _ _ _ _ (omega arith) (omega arith) (omega arith)) (totals_same _ _ _ _ _ _ _ _ (omega arith) (omega arith) (omega arith) (omega arith))
          ∙ (λ i. stake s.parts (less s.left (sym all i)) (both s.done (worked (sym all i) (sym moved i)))),
    )

-- the next job may start
pub may_next : (script : Contents) (jobs front : List Job) (job : Job) (rest : List Job) (done : List Done) (s now : Stake) → jobs ≡ front ++ job ∷ rest → MayStart script jobs s → HasWorked script front done s now → MayStart script (job ∷ []) now
may_next script jobs front job rest done s now is start by =
    let ready = ready_right script front (job ∷ rest) (subst (AreReadyJobs script) is start.0) in
    let all = tally_jobs script jobs front (job ∷ rest) is in
    let next = tally_jobs script (job ∷ rest) (job ∷ []) rest refl in
    let a = ap (λ (t : Tally). t.changes) all in
    let b = ap (λ (t : Tally). t.pulls) all in
    let c = ap (λ (t : Tally). t.reports) all in
    let d = ap (λ (t : Tally). t.changes) next in
    let e = ap (λ (t : Tally). t.pulls) next in
    let f = ap (λ (t : Tally). t.reports) next in
    let l = ap (λ (x : Stake). x.left.changes) by.1 in
    let m = ap (λ (x : Stake). x.left.pulls) by.1 in
    let n = ap (λ (x : Stake). x.left.reports) by.1 in
    ((ready.0, tt), (omega (arith, a, d, l, start.1.0), omega (arith, b, e, m, start.1.1), omega (arith, c, f, n, start.1.2)))
