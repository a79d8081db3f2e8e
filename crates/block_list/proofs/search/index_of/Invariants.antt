use Rattle.std.proofs.Common.{◌≡◌}
use Rattle.block_list.specs.Blocks.{start_of}
use Rattle.block_list.proofs.search.index_of.Given as goal

abbrev pub invariant-loop-i : goal.invariant-loop-i
invariant-loop-i g l = l.count ≡ start_of l.blocks l.i
