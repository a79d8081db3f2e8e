use Rattle.std.proofs.Common.{◌≤◌, ltb, leb, rules, sym, arith}
use Rattle.std.proofs.lemmas.List.Sorted.{IsPartitionedBy-ltb, IsPartitionedBy-leb, IsPartitionPoint-from_clause}
use Rattle.photo_device.specs.declared.held.Held.{Held}
use Rattle.fleet_steps.proofs.Ranges.{no_turn, of_range}
use Rattle.fleet_steps.proofs.Logged.{of_index, part_in_order}
use Rattle.fleet_steps.proofs.issue_log.IssueLog.of_picture.Goals as goal

pub slice_bounds-result-count : goal.slice_bounds-result-count
slice_bounds-result-count c =
    let xs = c.by_picture-index.result.now in
    let p = c.args.picture in
    let rises = c.by_picture-index.ensures.rising in
    let less = IsPartitionPoint-from_clause (λ (h : Held). ltb h.picture p) xs c.partition_point-from.result c.partition_point-from.ensures.partitioned (IsPartitionedBy-ltb (λ (h : Held). h.picture) xs p rises) (λ a r f h. search rules) in
    let most = IsPartitionPoint-from_clause (λ (h : Held). leb h.picture p) xs c.partition_point-to.result c.partition_point-to.ensures.partitioned (IsPartitionedBy-leb (λ (h : Held). h.picture) xs p rises) (λ a r f h. search rules) in
    no_turn p xs c.partition_point-from.result c.partition_point-to.result c.partition_point-from.ensures.bound c.partition_point-to.ensures.bound less most

pub slice_bounds-result-start : goal.slice_bounds-result-start
slice_bounds-result-start c =
    let xs = c.by_picture-index.result.now in
    let p = c.args.picture in
    let rises = c.by_picture-index.ensures.rising in
    let less = IsPartitionPoint-from_clause (λ (h : Held). ltb h.picture p) xs c.partition_point-from.result c.partition_point-from.ensures.partitioned (IsPartitionedBy-ltb (λ (h : Held). h.picture) xs p rises) (λ a r f h. search rules) in
    let most = IsPartitionPoint-from_clause (λ (h : Held). leb h.picture p) xs c.partition_point-to.result c.partition_point-to.ensures.partitioned (IsPartitionedBy-leb (λ (h : Held). h.picture) xs p rises) (λ a r f h. search rules) in
    let order : c.partition_point-from.result ≤ c.partition_point-to.result = no_turn p xs c.partition_point-from.result c.partition_point-to.result c.partition_point-from.ensures.bound c.partition_point-to.ensures.bound less most in
    search rules

pub returns-clause-any : goal.returns-clause-any
returns-clause-any c = λ test.
    let xs = c.by_picture-index.result.now in
    let p = c.args.picture in
    let rises = c.by_picture-index.ensures.rising in
    let less = IsPartitionPoint-from_clause (λ (h : Held). ltb h.picture p) xs c.partition_point-from.result c.partition_point-from.ensures.partitioned (IsPartitionedBy-ltb (λ (h : Held). h.picture) xs p rises) (λ a r f h. search rules) in
    let most = IsPartitionPoint-from_clause (λ (h : Held). leb h.picture p) xs c.partition_point-to.result c.partition_point-to.ensures.partitioned (IsPartitionedBy-leb (λ (h : Held). h.picture) xs p rises) (λ a r f h. search rules) in
    of_index p c.args.self.now xs _ c.by_picture-index.ensures.same (sym (of_range p xs c.partition_point-from.result c.partition_point-to.result c.partition_point-from.ensures.bound c.partition_point-to.ensures.bound less most)) test

pub returns-clause-ordered : goal.returns-clause-ordered
returns-clause-ordered c =
    let xs = c.by_picture-index.result.now in
    let p = c.args.picture in
    let rises = c.by_picture-index.ensures.rising in
    let less = IsPartitionPoint-from_clause (λ (h : Held). ltb h.picture p) xs c.partition_point-from.result c.partition_point-from.ensures.partitioned (IsPartitionedBy-ltb (λ (h : Held). h.picture) xs p rises) (λ a r f h. search rules) in
    let most = IsPartitionPoint-from_clause (λ (h : Held). leb h.picture p) xs c.partition_point-to.result c.partition_point-to.ensures.partitioned (IsPartitionedBy-leb (λ (h : Held). h.picture) xs p rises) (λ a r f h. search rules) in
    let order : c.partition_point-from.result ≤ c.partition_point-to.result = no_turn p xs c.partition_point-from.result c.partition_point-to.result c.partition_point-from.ensures.bound c.partition_point-to.ensures.bound less most in
    part_in_order xs c.partition_point-from.result _ (omega (arith, order, c.partition_point-to.ensures.bound)) c.by_picture-index.ensures.ordered
