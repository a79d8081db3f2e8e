-- Splits the jobs into those of the last worker and those of the others.
use Rattle.std.proofs.Common.{◌≡◌, ℕ, zero, suc, length, get_or, take, ◌+◌, ◌-◌, ◌<◌, List, [], ◌∷◌, ◌++◌, sym, ap, ◌∙◌, subst, arith}
use Rattle.std.proofs.lemmas.List.{map-append, take_more}
use Rattle.std.specs.Prelude.{Some, Vec, Result, Ok, Err, IfOk}
use Rattle.fleet_model.specs.declared.command.Command.{Command}
use Rattle.fleet_model.specs.Tallies.{kind_of}
use Rattle.fleet_model.specs.Contents.{Contents, command_of}
use Rattle.fleet_model.specs.declared.tally.Tally.{Tally}
use Rattle.fleet_model.specs.declared.tally.Totals.{Totals}
use Rattle.work_ledger.specs.Stakes.{Stake, stake, none_left, plus, less, both, given, Within, IsCountable}
use Rattle.fleet_workers.specs.Counting.{one_of, tally_at, worked, moved_in}
use Rattle.fleet_workers.specs.Jobs.{IsReadyJob, AreReadyJobs, AreDoneJobs, MayStart, HasWorked, numbers_of, share_for}
use Rattle.fleet_workers.specs.declared.work.Job.{Job}
use Rattle.fleet_workers.specs.declared.work.Done.{Done}
use Rattle.fleet_workers.proofs.Owned.{ready_left, ready_right, done_both}
use Rattle.fleet_workers.proofs.Counting.{tally_same, totals_same, tally-cons, tally-append, one_is, moved-append}

pub tally_jobs : (script : Contents) (all others last : List Job) → all ≡ others ++ last → tally_at script (numbers_of all) ≡ plus (tally_at script (numbers_of others)) (tally_at script (numbers_of last))
tally_jobs script all others last is = ap (λ (js : List Job). tally_at script (numbers_of js)) is ∙ ap (tally_at script) (map-append (λ (j : Job). j.number) others last) ∙ tally-append script (numbers_of others) (numbers_of last)

within_last : (all others last left : Tally) → all ≡ plus others last → Within all left → Within last left
within_last all others last left is within =
    let a = ap (λ (t : Tally). t.changes) is in
    let b = ap (λ (t : Tally). t.pulls) is in
    let c = ap (λ (t : Tally). t.reports) is in (omega (arith, a, within.0), omega (arith, b, within.1), omega (arith, c, within.2))

within_less : (all others last left : Tally) → all ≡ plus others last → Within all left → Within others (less left last)
within_less all others last left is within =
    let a = ap (λ (t : Tally). t.changes) is in
    let b = ap (λ (t : Tally). t.pulls) is in
    let c = ap (λ (t : Tally). t.reports) is in (omega (arith, a, within.0), omega (arith, b, within.1), omega (arith, c, within.2))

-- the last worker may start
pub may_last : (script : Contents) (all others last : List Job) (s : Stake) → all ≡ others ++ last → MayStart script all s → MayStart script last s
may_last script all others last s is start =
    (ready_right script others last (subst (AreReadyJobs script) is start.0), within_last _ _ _ s.left (tally_jobs script all others last is) start.1)

-- the share that is left when the last worker's share is split off
abbrev pub share_beside : Contents → List Job → Stake → Stake
share_beside script last s = stake (s.parts - 1) (less s.left (tally_at script (numbers_of last))) s.done

-- the other workers may start
pub may_others : (script : Contents) (all others last : List Job) (s rest : Stake) → all ≡ others ++ last → MayStart script all s → rest ≡ share_beside script last s → MayStart script others rest
may_others script all others last s rest is start split = (
  ready_left script others last (subst (AreReadyJobs script) is start.0),
  subst (λ (x : Stake). Within (tally_at script (numbers_of others)) x.left) (sym split) (within_less _ _ _ s.left (tally_jobs script all others last is) start.1),
)

-- a worker's promise holds for the script and the jobs that it was started with
pub promised : {Z : Type 0} (script its : Contents) (jobs those : Vec Job Z) (es : List Done) (theirs : Stake) → its ≡ script → those ≡ jobs → HasWorked its those.items es (share_for its those.items) theirs → HasWorked script jobs.items es (share_for script jobs.items) theirs
promised {Z} script its jobs those es theirs e f by =
    subst (λ (v : Vec Job Z). HasWorked script v.items es (share_for script v.items) theirs) f
    (subst (λ (s : Contents). HasWorked s those.items es (share_for s those.items) theirs) e by)

-- all jobs have run: the others', and the last worker's
pub record HaveRun (script : Contents) (all others last : List Job) (ds es : List Done) (s rest now theirs : Stake) : Type 0 where
  pub is : all ≡ others ++ last
  pub start : MayStart script all s
  pub split : rest ≡ share_beside script last s
  pub others_have : HasWorked script others ds rest now
  pub last_has : HasWorked script last es (share_for script last) theirs

now_is : (script : Contents) (all others last : List Job) (ds es : List Done) (s rest now theirs : Stake) → HaveRun script all others last ds es s rest now theirs
    → now ≡ stake (s.parts - 1) (less (less s.left (tally_at script (numbers_of last))) (tally_at script (numbers_of others))) (both s.done (worked (tally_at script (numbers_of others)) (moved_in ds)))
now_is script all others last ds es s rest now theirs r =
    r.others_have.1 ∙ (λ i. stake (r.split i).parts (less (r.split i).left (tally_at script (numbers_of others))) (both (r.split i).done (worked (tally_at script (numbers_of others)) (moved_in ds))))

pub countable_joined : (script : Contents) (all others last : List Job) (ds es : List Done) (s rest now theirs : Stake) → HaveRun script all others last ds es s rest now theirs → IsCountable (given s.left s.done) → IsCountable (plus (given now.left now.done) (given theirs.left theirs.done))
countable_joined script all others last ds es s rest now theirs r k =
    let whole = tally_jobs script all others last r.is in
    let mine = now_is script all others last ds es s rest now theirs r in
    let within = r.start.1 in
    let i1 = ap (λ (t : Tally). t.changes) whole in
    let i2 = ap (λ (t : Tally). t.pulls) whole in
    let i3 = ap (λ (t : Tally). t.reports) whole in
    let n1 = ap (λ (x : Stake). x.left.changes) mine in
    let n2 = ap (λ (x : Stake). x.left.pulls) mine in
    let n3 = ap (λ (x : Stake). x.left.reports) mine in
    let d1 = ap (λ (x : Stake). x.done.changes) mine in
    let d2 = ap (λ (x : Stake). x.done.pulls) mine in
    let d3 = ap (λ (x : Stake). x.done.reports) mine in
    let t1 = ap (λ (x : Stake). x.left.changes) r.last_has.1 in
    let t2 = ap (λ (x : Stake). x.left.pulls) r.last_has.1 in
    let t3 = ap (λ (x : Stake). x.left.reports) r.last_has.1 in
    let e1 = ap (λ (x : Stake). x.done.changes) r.last_has.1 in
    let e2 = ap (λ (x : Stake). x.done.pulls) r.last_has.1 in
    let e3 = ap (λ (x : Stake). x.done.reports) r.last_has.1 in (
      omega (arith, i1, n1, d1, t1, e1, within.0, k.0),
      omega (arith, i2, n2, d2, t2, e2, within.1, k.1),
      omega (arith, i3, n3, d3, t3, e3, within.2, k.2),
    )

stake_is : (p p' : ℕ) (t t' : Tally) (d d' : Totals) → p ≡ p' → t ≡ t' → d ≡ d' → stake p t d ≡ stake p' t' d'
stake_is p p' t t' d d' e f g = λ i. stake (e i) (f i) (g i)

-- the share is as if one worker had run all jobs
joined : (script : Contents) (all others last : List Job) (ds es whole : List Done) (s rest now theirs after : Stake) → HaveRun script all others last ds es s rest now theirs → 0 < s.parts → whole ≡ ds ++ es → after ≡ stake (now.parts + theirs.parts) (plus now.left theirs.left) (both now.done theirs.done)
    → HasWorked script all whole s after
joined script all others last ds es whole s rest now theirs after r some put is =
    let sum = tally_jobs script all others last r.is in
    let mine = now_is script all others last ds es s rest now theirs r in
    let them = r.last_has.1 in
    let moved = ap moved_in put ∙ moved-append ds es in
    let i1 = ap (λ (t : Tally). t.changes) sum in
    let i2 = ap (λ (t : Tally). t.pulls) sum in
    let i3 = ap (λ (t : Tally). t.reports) sum in (
      subst (λ (js : List Job). AreDoneJobs script js whole) (sym r.is) (subst (AreDoneJobs script (others ++ last)) (sym put) (done_both script others last ds es r.others_have.0 r.last_has.0)),
      is ∙ (λ i. stake ((mine i).parts + (them i).parts) (plus (mine i).left (them i).left) (both (mine i).done (them i).done))
          ∙ stake_is _ _ _ _ _ _ (omega (arith, some)) (tally_same _ _ _ _ _ _ (omega (arith, i1)) (omega (arith, i2)) (omega (arith, i3))) (totals_same _ _ _ _ _ _ _ _ (omega (arith, i1)) (omega (arith, i2)) (omega (arith, i3)) (omega (arith, moved))),
    )

pub all_joined : {Z E : Type 0} (r : Result (Vec Done Z) E) (script : Contents) (all others last : List Job) (ds es : List Done) (s rest now theirs after : Stake) → HaveRun script all others last ds es s rest now theirs → 0 < s.parts → IfOk r (λ v. v.items ≡ ds ++ es)
    → after ≡ stake (now.parts + theirs.parts) (plus now.left theirs.left) (both now.done theirs.done) → IfOk r (λ v. HasWorked script all v.items s after)
all_joined (Ok v) script all others last ds es s rest now theirs after r some put is = joined script all others last ds es v.items s rest now theirs after r some put is
all_joined (Err e) script all others last ds es s rest now theirs after r some put is = tt

pub ready_at : (script : Contents) (jobs : List Job) (i : ℕ) (job : Job) → AreReadyJobs script jobs → i < length jobs → job ≡ get_or jobs i job → IsReadyJob script job
ready_at script [] i job ready below is = absurd (omega arith)
ready_at script (j ∷ js) zero job ready below is = subst (IsReadyJob script) (sym is) ready.0
ready_at script (j ∷ js) (suc i) job ready below is = ready_at script js i job ready.1 (omega (arith, below)) is

-- the tally with one more job
pub tally_next : (script : Contents) (jobs : List Job) (i : ℕ) (job : Job) (c : Command) (sum one new : Tally) → i < length jobs → job ≡ get_or jobs i job → command_of script job.number ≡ Some c → one ≡ one_of (kind_of c) → sum ≡ tally_at script (numbers_of (take i jobs)) → new ≡ plus sum one
    → new ≡ tally_at script (numbers_of (take (i + 1) jobs))
tally_next script jobs i job c sum one new below is command one_here old now =
    let next : take (i + 1) jobs ≡ take i jobs ++ job ∷ [] = take_more jobs i job below ∙ ap (λ (j : Job). take i jobs ++ j ∷ []) (sym is) in
    let last : tally_at script (job.number ∷ []) ≡ one_of (kind_of c) = tally-cons script job.number [] ∙ ap (λ (t : Tally). plus t none_left) (one_is script job.number c command) ∙ tally_same _ _ _ _ _ _ (omega arith) (omega arith) (omega arith) in
    let all = tally_jobs script (take (i + 1) jobs) (take i jobs) (job ∷ []) next in
    now ∙ (λ k. plus (old k) (one_here k)) ∙ ap (plus (tally_at script (numbers_of (take i jobs)))) (sym last) ∙ sym all
