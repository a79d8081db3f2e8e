use Rattle.std.proofs.Common.{◌≡◌, ◌+◌, Bool, length, take}
use Rattle.std.specs.Prelude.{filter}
use Rattle.std.specs.Fn.{ComputesKey}
use Rattle.block_list.specs.Blocks.{joined}
use Rattle.block_list.proofs.kept.retain_in.Given as goal

-- in the blocks so far all pass, and what passes is still there
abbrev pub invariant-loop-i : goal.invariant-loop-i
invariant-loop-i g l =
    (length l.blocks.items ≡ length l.fn.blocks.items)
    × (l.gone + length (joined l.blocks.items) ≡ length (joined l.fn.blocks.items))
    × ((p : g.row.T.Denot → Bool) → ComputesKey g.P.Fn p l.pred → (filter p (joined l.blocks.items) ≡ filter p (joined l.fn.blocks.items)) × (filter p (joined (take l.i l.blocks.items)) ≡ joined (take l.i l.blocks.items)))
