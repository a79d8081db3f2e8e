use Rattle.std.proofs.Common.{◌≡◌, ◌-◌, ◌≤◌, ◌++◌, length, take, drop}
use Rattle.block_list.specs.Blocks.{joined, AreFilled}
use Rattle.block_list.proofs.block_list.BlockList.remove_range.Given as goal

-- what is still to go stands from `from` on
abbrev pub invariant-loop-left : goal.invariant-loop-left
invariant-loop-left g l =
    (l.left ≤ l.to - l.from) × (l.self-inside.len ≡ length l.fn.self) × AreFilled l.self-inside.blocks.items × (joined l.self-inside.blocks.items ≡ take l.from l.fn.self ++ drop (l.to - l.left) l.fn.self)

abbrev pub decreases-loop-left : goal.decreases-loop-left
decreases-loop-left g l = l.left
