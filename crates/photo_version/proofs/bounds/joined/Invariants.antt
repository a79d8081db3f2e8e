use Rattle.std.proofs.Common.{length, ◌-◌, ◌+◌}
use Rattle.photo_version.proofs.JoinLemmas.{IsJoining}
use Rattle.photo_version.proofs.bounds.joined.Given as goal

abbrev pub invariant-loop-i : goal.invariant-loop-i
invariant-loop-i l = IsJoining l.bounds l.others l.all.items l.i l.j

abbrev pub decreases-loop-i : goal.decreases-loop-i
decreases-loop-i l = (length l.bounds - l.i) + (length l.others - l.j)
