use Rattle.std.proofs.Common.{◌-◌, Vec, slice_get, ap, rules, length, arith}
use Rattle.std.proofs.lemmas.List.Sorted.{IsPartitionPoint-from_clause}
use Rattle.std.specs.declared.alloc.Global.{Global}
use Rattle.block_list.specs.Blocks.{passes}
use Rattle.block_list.proofs.Turn.{starts_parted, point_first, point_in}
use Rattle.block_list.proofs.search.spot_of.Goals as goal

pub returns-then-turn-eq0-clause-partitioned : goal.returns-then-turn-eq0-clause-partitioned
returns-then-turn-eq0-clause-partitioned g c = λ p h parts.
    let blocks = c.args.blocks.now in
    let point = IsPartitionPoint-from_clause (λ (b : Vec g.row.T.Denot Global). passes p (slice_get b.items 0)) blocks _ c.partition_point-turn.ensures.partitioned (starts_parted p blocks c.requires.filled parts) (λ x r f k. search rules) in
    point_first p blocks _ c.requires.filled parts point c.if-turn-eq0.true

pub returns-clause-partitioned : goal.returns-clause-partitioned
returns-clause-partitioned g c = λ p h parts.
    let blocks = c.args.blocks.now in
    let turn = c.partition_point-turn.result in
    let point = IsPartitionPoint-from_clause (λ (b : Vec g.row.T.Denot Global). passes p (slice_get b.items 0)) blocks _ c.partition_point-turn.ensures.partitioned (starts_parted p blocks c.requires.filled parts) (λ x r f k. search rules) in
    let same = c.deref.ensures.value in
    point_in p blocks (turn - 1) c.partition_point.result turn c.index-blocks-turn.result c.requires.filled parts point (omega arith) (omega arith) c.index-blocks-turn.is (omega (arith, c.partition_point.ensures.bound, ap length same)) (rw same at c.partition_point.ensures.partitioned p h)
