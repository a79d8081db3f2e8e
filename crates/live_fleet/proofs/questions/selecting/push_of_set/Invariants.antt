use Rattle.std.proofs.Common.{◌≡◌, ◌++◌, take}
use Rattle.block_list.specs.Blocks.{joined}
use Rattle.live_fleet.specs.Selected.{matched}
use Rattle.live_fleet.proofs.questions.selecting.push_of_set.Given as goal

abbrev pub invariant-loop-block : goal.invariant-loop-block
invariant-loop-block l = l.found.items ≡ l.fn.found.items ++ matched l.wanted (joined (take l.block-index l.block-items))
