use Rattle.std.proofs.Common.{◌≡◌, ◌∙◌, [], ◌∷◌, ◌++◌, List, ap, sym, subst, append_assoc, append-nil, arith}
use Rattle.std.proofs.lemmas.Grind.{common_steps}
use Rattle.std.specs.Arc.{arc_value}
use Rattle.std.specs.Vec.Iter.{into_iter_items}
use Rattle.fleet_workers.specs.declared.work.Job.{Job}
use Rattle.fleet_workers.specs.declared.work.Done.{Done}
use Rattle.fleet_workers.specs.Jobs.{HasWorked}
use Rattle.fleet_workers.proofs.Workings.{worked_none, worked_both, may_next}
use Rattle.fleet_workers.proofs.worker.run_jobs.Goals as goal

pub loop-job-init : goal.loop-job-init
loop-job-init g c =
    let script = arc_value c.args.shared.now.script in
    let share = c.args.share.now in
    let gives : into_iter_items c.into_iter-job-iterator.result ≡ c.args.jobs.items = grind (arith, common_steps) in
    record { front = []; all = gives; worked = subst (λ (l : List Done). HasWorked script [] l share share) (sym c.new-done.ensures.items) (worked_none script share) }

pub run_job-requires-after_bounds : goal.run_job-requires-after_bounds
run_job-requires-after_bounds g c κs within =
    let inv = c.loop-job.invariant in
    may_next (arc_value c.args.shared.now.script) c.args.jobs.items inv.front c.in-Some.job (into_iter_items c.next.new.self) c.loop-job.done.items c.args.share.now c.loop-job.share
    (sym inv.all ∙ ap (λ (js : List Job). inv.front ++ js) c.in-Some.ensures.steps.0) c.requires inv.worked

pub loop-job-preserved : goal.loop-job-preserved
loop-job-preserved g c =
    let script = arc_value c.args.shared.now.script in
    let inv = c.loop-job.invariant in
    let job = c.in-Some.job in
    let now = c.run_job.new.share in
    record {
      front = inv.front ++ job ∷ [];
      all = append_assoc inv.front (job ∷ []) (into_iter_items c.next.new.self) ∙ ap (λ (js : List Job). inv.front ++ js) (sym c.in-Some.ensures.steps.0) ∙ inv.all;
      worked = subst (λ (l : List Done). HasWorked script (inv.front ++ job ∷ []) l c.args.share.now now) (sym c.in_ok-push.ensures.items)
          (worked_both script inv.front (job ∷ []) c.loop-job.done.items (c.in_ok-it.it ∷ []) c.args.share.now c.loop-job.share now inv.worked c.in_ok-it.ensures);
    }

pub returns : goal.returns
returns g c =
    let script = arc_value c.args.shared.now.script in
    let inv = c.loop-job.invariant in
    let none : into_iter_items c.loop-job.job-iterator ≡ [] = grind (arith, common_steps) in
    let all = sym (append-nil inv.front) ∙ ap (λ (js : List Job). inv.front ++ js) (sym none) ∙ inv.all in
    subst (λ (js : List Job). HasWorked script js c.loop-job.done.items c.args.share.now c.loop-job.share) all inv.worked
