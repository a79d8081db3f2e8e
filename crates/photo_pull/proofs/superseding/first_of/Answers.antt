use Rattle.std.proofs.Common.{◌<◌, ltb, get_or, ℕ, rules, arith}
use Rattle.std.proofs.lemmas.Bool.{ltb-true}
use Rattle.std.proofs.lemmas.Bool.Decides.{nat_tests}
use Rattle.std.proofs.lemmas.List.Sorted.{IsPartitionedBy-ltb, IsPartitionPoint-from_clause}
use Rattle.photo_device.specs.declared.held.Held.{Held}
use Rattle.photo_device.proofs.Order.{rises}
use Rattle.photo_pull.proofs.Along.{behind}
use Rattle.photo_pull.proofs.superseding.first_of.Goals as goal

pub returns : goal.returns
returns c =
    let xs = c.args.list.now in
    let p = c.args.picture in
    let less = IsPartitionPoint-from_clause (λ (h : Held). ltb h.picture p) xs c.partition_point.result c.partition_point.ensures.partitioned (IsPartitionedBy-ltb (λ (h : Held). h.picture) xs p (rises xs c.requires)) (λ a r f h. search rules) in
    let before : (i : ℕ) (d : Held) → i < c.partition_point.result → (get_or xs i d).picture < p = λ i d l. ltb-true _ _ (less.0 i d (omega arith) l) in
    record {
      above = λ h from. behind _ xs c.partition_point.result (λ i d l. let less = before i d l in grind (arith, nat_tests));
      below = λ w from. behind _ xs c.partition_point.result (λ i d l. let less = before i d l in grind (arith, nat_tests));
    }
