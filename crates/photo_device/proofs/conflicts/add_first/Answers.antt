use Rattle.std.proofs.Common.{◌++◌, ◌∙◌, rules}
use Rattle.std.proofs.lemmas.List.Sorted.{IsPartitionPoint-from_clause}
use Rattle.photo_device.specs.Held.{entries_of}
use Rattle.photo_model.specs.Conflicts.{conflicts_in}
use Rattle.photo_device.proofs.Grouping.{IsFirstRun, is_at, first_run, run_two, run_one}
use Rattle.photo_device.proofs.conflicts.add_first.Goals as goal
use Rattle.photo_device.proofs.conflicts.add_first.Goals.{then-run-gt1+in_ok-versions+in_ok-push, else-run-gt1}

first : (c : goal.Joined-run-gt1) → IsFirstRun c.picture-picture.result c.args.all.now c.split_at.result.0.now c.split_at.result.1.now
first c =
    let p = c.picture-picture.result in
    let x = c.index-all-0.result in
    first_run p c.args.all.now _ _ x c.partition_point.result c.requires.some c.index-all-0.is c.picture-picture.ensures c.requires.order c.partition_point.ensures.bound
    (λ parts. IsPartitionPoint-from_clause (is_at p) c.args.all.now _ c.partition_point.ensures.partitioned parts (λ a r f h. search rules)) c.split_at.ensures.front c.split_at.ensures.back

pub returns-clause-added : goal.returns-clause-added
returns-clause-added c = elim c.if-run-gt1.branch [
  | then-run-gt1+in_ok-versions+in_ok-push w ↦
      run_two _ _ _ _ c.args.conflicts.now.items c.if-run-gt1.conflicts.items w.in_ok-versions.versions (first c) w.if-run-gt1.true w.in_ok-versions.ensures ((λ i. (w.conflicts-is i).items) ∙ w.in_ok-push.ensures.items)
  | else-run-gt1 w ↦ (λ i. (w.conflicts-is i).items ++ conflicts_in (entries_of c.split_at.result.1.now)) ∙ run_one _ _ _ _ c.args.conflicts.now.items (first c) w.if-run-gt1.false
]

pub returns-clause-order : goal.returns-clause-order
returns-clause-order c = (first c).order

pub returns-clause-shorter : goal.returns-clause-shorter
returns-clause-shorter c = (first c).shorter
