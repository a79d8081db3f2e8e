use Rattle.std.proofs.Common.{◌≡◌, drop}
use Rattle.block_list.specs.Blocks.{joined}
use Rattle.live_fleet.specs.Standing.{has}
use Rattle.live_fleet.proofs.questions.standing.has.Given as goal

-- the set has such a version exactly where the remaining blocks have one
abbrev pub invariant-loop-block : goal.invariant-loop-block
invariant-loop-block l = has l.picture (joined (drop l.block-index l.block-items)) ≡ has l.picture (joined l.block-items)
