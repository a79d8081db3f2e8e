use Rattle.std.proofs.Common.{ltb, leb, rules}
use Rattle.std.proofs.lemmas.List.Sorted.{IsPartitionedBy-leb, IsPartitionedBy-ltb, IsPartitionPoint-from_clause}
use Rattle.photo_device.specs.declared.held.Held.{Held}
use Rattle.photo_device.proofs.Order.{rises, range_cut, one_of_picture}
use Rattle.photo_device.proofs.held_set.range_of.Goals as goal

pub returns : goal.returns
returns c =
    let xs = c.args.items.now in
    let p = c.args.picture in
    let less = IsPartitionPoint-from_clause (λ (h : Held). ltb h.picture p) xs _ c.partition_point-from.ensures.partitioned (IsPartitionedBy-ltb (λ h. h.picture) xs p (rises xs c.requires)) (λ a r f h. search rules) in
    let most = IsPartitionPoint-from_clause (λ (h : Held). leb h.picture p) xs _ c.partition_point-to.ensures.partitioned (IsPartitionedBy-leb (λ h. h.picture) xs p (rises xs c.requires)) (λ a r f h. search rules) in
    let cut = range_cut (one_of_picture p) xs _ _ c.partition_point-from.ensures.bound c.partition_point-to.ensures.bound less most in
    record { order = cut.order; within = c.partition_point-to.ensures.bound; rest = cut.rest }
