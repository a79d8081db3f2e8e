use Rattle.std.proofs.Common.{◌++◌, [], ℕ, List, subst, refl, arith}
use Rattle.std.specs.Arc.{arc_value}
use Rattle.std.proofs.lemmas.List.{take_all}
use Rattle.photo_batcher.specs.Batches.{InTurn}
use Rattle.fleet_workers.proofs.Planned.{in_turn_more, few_front, batch_numbers, batch_apart, batch_left, plan_lawful}
use Rattle.fleet_workers.proofs.fleet.run_batches.Goals as goal

pub loop-batch-init : goal.loop-batch-init
loop-batch-init g c = ([], refl, c.requires.start)

pub run_batch-requires-clause-numbers : goal.run_batch-requires-clause-numbers
run_batch-requires-clause-numbers g c κs within = let i = c.loop-batch.invariant in batch_numbers (arc_value c.args.shared.now.script) c.args.plan.now c.loop-batch.batch i.0 c.members.result.now c.requires.plan i.1 c.members.ensures

pub run_batch-requires-clause-apart : goal.run_batch-requires-clause-apart
run_batch-requires-clause-apart g c κs within = let i = c.loop-batch.invariant in batch_apart (arc_value c.args.shared.now.script) c.args.plan.now c.loop-batch.batch i.0 c.members.result.now c.requires.plan i.1 c.members.ensures

pub run_batch-requires-clause-left : goal.run_batch-requires-clause-left
run_batch-requires-clause-left g c κs within = let i = c.loop-batch.invariant in batch_left (arc_value c.args.shared.now.script) c.args.plan.now c.loop-batch.batch i.0 c.members.result.now c.loop-batch.slots c.loop-batch.share c.requires.plan i.1 c.members.ensures i.2

pub run_batch-requires-clause-state : goal.run_batch-requires-clause-state
run_batch-requires-clause-state g c κs within =
    let i = c.loop-batch.invariant in
    (i.0, few_front (arc_value c.args.shared.now.script) c.args.plan.now c.loop-batch.batch i.0 c.members.result.now c.requires.script c.requires.plan i.1 c.members.ensures, i.2)

pub loop-batch-preserved : goal.loop-batch-preserved
loop-batch-preserved g c =
    let script = arc_value c.args.shared.now.script in
    let i = c.loop-batch.invariant in
    let few = few_front script c.args.plan.now c.loop-batch.batch i.0 c.members.result.now c.requires.script c.requires.plan i.1 c.members.ensures in
    let new = c.in_ok-slots.ensures.ok i.0 few i.2 in
    (i.0 ++ new.0, in_turn_more c.loop-batch.batch c.args.plan.now.members i.0 c.members.result.now new.0 i.1 c.members.ensures new.1, new.2)

pub returns-clause-ok : goal.returns-clause-ok
returns-clause-ok g c =
    let i = c.loop-batch.invariant in
    let members = c.args.plan.now.members in
    let count = c.batches-batch-end.ensures.count in
    let all = subst (λ (l : List (List ℕ)). InTurn l i.0) (take_all c.loop-batch.batch members (omega (arith, count))) i.1 in
    record { is = c.requires.script; order = i.0; lawful = plan_lawful (arc_value c.args.shared.now.script) c.args.plan.now i.0 c.requires.plan all; run = i.2 }
