use Rattle.std.proofs.Common.{◌∙◌, ◌<◌, List, ap, refl, length, get_or, arith}
use Rattle.std.proofs.lemmas.Grind.{common_steps}
use Rattle.fleet_workers.specs.declared.work.Job.{Job}
use Rattle.fleet_workers.proofs.Owned.{numbered, within_script, number_of}
use Rattle.fleet_workers.proofs.Crewed.{ready_at, tally_next}
use Rattle.fleet_workers.proofs.tally.tally.Goals as goal

pub command-requires-clause-first : goal.command-requires-clause-first
command-requires-clause-first c =
    let jobs = c.args.jobs.now.items in
    let i = c.loop-job.job-index in
    let job = c.job-item.result in
    let below : i < length jobs = grind (arith, common_steps) in
    let at = c.job-item.is ∙ ap (λ (xs : List Job). get_or xs i job) c.deref-job-items.ensures.value in
    numbered c.args.script.now job (ready_at c.args.script.now jobs i job c.requires below at)

pub command-requires-clause-within : goal.command-requires-clause-within
command-requires-clause-within c =
    let jobs = c.args.jobs.now.items in
    let i = c.loop-job.job-index in
    let job = c.job-item.result in
    let below : i < length jobs = grind (arith, common_steps) in
    let at = c.job-item.is ∙ ap (λ (xs : List Job). get_or xs i job) c.deref-job-items.ensures.value in
    within_script c.args.script.now job (ready_at c.args.script.now jobs i job c.requires below at)

pub loop-job-preserved : goal.loop-job-preserved
loop-job-preserved c =
    let script = c.args.script.now in
    let jobs = c.args.jobs.now.items in
    let i = c.loop-job.job-index in
    let job = c.job-item.result in
    let below : i < length jobs = grind (arith, common_steps) in
    let at = c.job-item.is ∙ ap (λ (xs : List Job). get_or xs i job) c.deref-job-items.ensures.value in
    let ready = ready_at script jobs i job c.requires below at in
    let command = number_of script job.number c.command.result.now (numbered script job ready) c.command.ensures.command in
    let inv = c.loop-job.invariant in
    let one = c.one_of-one.ensures in
    record {
      sum = tally_next script jobs i job c.command.result.now c.loop-job.sum c.one_of-one.result _ below at command one.kind inv.sum refl;
      changes = omega (arith, inv.changes, one.one.0);
      pulls = omega (arith, inv.pulls, one.one.1);
      reports = omega (arith, inv.reports, one.one.2);
    }
