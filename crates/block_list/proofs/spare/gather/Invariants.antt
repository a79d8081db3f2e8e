use Rattle.std.proofs.Common.{◌≡◌, ◌+◌, ◌≤◌, ◌++◌, length, vec_capacity}
use Rattle.std.specs.Vec.Iter.{into_iter_items}
use Rattle.block_list.specs.Blocks.{joined}
use Rattle.block_list.proofs.spare.gather.Given as goal

abbrev pub invariant-loop-block : goal.invariant-loop-block
invariant-loop-block g l =
    let rest = joined (into_iter_items l.block-iterator) in record {
      items : l.whole.items ++ rest ≡ l.fn.whole.items ++ joined l.fn.blocks.items;
      fits : length l.whole.items + length rest ≤ vec_capacity l.whole;
      capacity : vec_capacity l.fn.whole ≤ vec_capacity l.whole;
    }
