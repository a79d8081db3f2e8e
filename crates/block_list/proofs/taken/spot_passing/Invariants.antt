use Rattle.std.proofs.Common.{◌≡◌, ℕ, ◌+◌, ◌≤◌, ◌<◌, Bool, false, length, get_or, Vec}
use Rattle.std.specs.List.{list_any}
use Rattle.std.specs.Fn.{ComputesKey}
use Rattle.std.specs.declared.alloc.Global.{Global}
use Rattle.block_list.proofs.taken.spot_passing.Given as goal

-- in none of the blocks so far one passes
abbrev pub invariant-loop-i : goal.invariant-loop-i
invariant-loop-i g l =
    (p : g.row.T.Denot → Bool) → ComputesKey g.P.Fn p l.pred → (b : ℕ) (d : Vec g.row.T.Denot Global) → b < length l.blocks → (l.from ≤ b → b < l.from + l.i) → (b < l.from → b + length l.blocks < l.from + l.i) → list_any p (get_or l.blocks b d).items ≡ false
