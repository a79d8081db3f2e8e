use Rattle.std.specs.List.{AllAdjacentBelow}
use Rattle.fleet_audit.specs.Stretch.{Follows}
use Rattle.fleet_audit.proofs.stretch.stretch_len.Given as goal

abbrev pub invariant-loop-i : goal.invariant-loop-i
invariant-loop-i l = AllAdjacentBelow Follows l.helds l.i
