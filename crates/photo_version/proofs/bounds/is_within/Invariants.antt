use Rattle.std.proofs.Common.{length, ◌-◌, ◌+◌}
use Rattle.photo_version.proofs.JoinLemmas.{IsComparing}
use Rattle.photo_version.proofs.bounds.is_within.Given as goal

abbrev pub invariant-loop-i : goal.invariant-loop-i
invariant-loop-i l = IsComparing l.bounds l.others l.i l.j

abbrev pub decreases-loop-i : goal.decreases-loop-i
decreases-loop-i l = (length l.bounds - l.i) + (length l.others - l.j)
