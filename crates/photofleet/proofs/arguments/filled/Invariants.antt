use Rattle.std.proofs.Common.{◌≤◌, length}
use Rattle.photofleet.proofs.arguments.filled.Given as goal

-- the bytes never become fewer than `start`
abbrev pub invariant-loop : goal.invariant-loop
invariant-loop g l = l.start ≤ length l.bytes.items
