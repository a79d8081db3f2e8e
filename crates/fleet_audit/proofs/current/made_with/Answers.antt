use Rattle.std.proofs.Common.{rules}
use Rattle.std.proofs.lemmas.List.Sorted.{IsPartitionPoint-from_clause}
use Rattle.photo_version.specs.Vector.{denotes}
use Rattle.photo_device.specs.declared.held.Held.{Held}
use Rattle.fleet_audit.proofs.Lists.{turns_at}
use Rattle.fleet_audit.proofs.Stretches.{known_first}
use Rattle.fleet_audit.proofs.current.made_with.Goals as goal

pub returns-clause-known : goal.returns-clause-known
returns-clause-known c =
    let xs = c.args.stretch.now in
    let n = c.partition_point.result in
    let point = IsPartitionPoint-from_clause (λ (h : Held). denotes c.args.history.now h.version) xs n c.partition_point.ensures.partitioned (known_first xs c.requires c.args.history.now) (λ a r f h. search rules) in
    turns_at (λ (h : Held). denotes c.args.history.now h.version) xs n point
