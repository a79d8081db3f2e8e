use Rattle.std.proofs.Common.{[], sym, subst}
use Rattle.std.specs.Arc.{arc_value}
use Rattle.fleet_model.specs.Contents.{Contents, IsScript}
use Rattle.fleet_model.specs.Tallies.{tally_of}
use Rattle.photo_batcher.specs.Plans.{IsPlan}
use Rattle.work_ledger.specs.Ledgers.{all_parts}
use Rattle.work_ledger.specs.Stakes.{stake, nothing_done}
use Rattle.fleet_workers.specs.Progress.{HasRun}
use Rattle.fleet_workers.proofs.fleet.run_planned.Goals as goal

pub run_batches-requires-clause-script : goal.run_batches-requires-clause-script
run_batches-requires-clause-script g c κs within = subst IsScript c.script-2.ensures c.in_ok-slots.ensures.script

pub run_batches-requires-clause-plan : goal.run_batches-requires-clause-plan
run_batches-requires-clause-plan g c κs within = subst (λ (s : Contents). IsPlan s c.in_ok-plan.plan) c.script.ensures c.in_ok-plan.ensures

pub run_batches-requires-clause-start : goal.run_batches-requires-clause-start
run_batches-requires-clause-start g c κs within =
    let slots = c.in_ok-slots.slots in
    subst (HasRun (arc_value c.args.shared.now.script) [] slots) (sym c.requires)
    (subst (λ (s : Contents). HasRun s [] slots (stake all_parts (tally_of s) nothing_done)) c.script-2.ensures c.in_ok-slots.ensures.slots)
