use Rattle.std.proofs.Common.{◌≡◌, Bool, false, take}
use Rattle.std.specs.List.{list_any}
use Rattle.std.specs.Fn.{ComputesKey}
use Rattle.block_list.proofs.taken.first_passing.Given as goal

-- none of the elements so far passes
abbrev pub invariant-loop-place : goal.invariant-loop-place
invariant-loop-place g l = (p : g.row.T.Denot → Bool) → ComputesKey g.P.Fn p l.pred → list_any p (take l.place l.items) ≡ false
