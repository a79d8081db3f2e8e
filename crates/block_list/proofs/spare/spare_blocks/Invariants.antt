use Rattle.std.proofs.Common.{◌≤◌, length}
use Rattle.std.specs.Prelude.{vec_capacity}
use Rattle.std.specs.List.{All}
use Rattle.block_list.specs.Spares.{IsSpare}
use Rattle.block_list.proofs.spare.spare_blocks.Given as goal

abbrev pub invariant-loop-i : goal.invariant-loop-i
invariant-loop-i g l = (length l.spare.items ≤ l.i) × All IsSpare l.spare.items × (l.count ≤ vec_capacity l.spare)
