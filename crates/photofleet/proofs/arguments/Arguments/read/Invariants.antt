use Rattle.std.proofs.Common.{◌≤◌, length}
use Rattle.photofleet.proofs.arguments.Arguments.read.Given as goal

-- the words so far end within the bytes
abbrev pub invariant-loop-i : goal.invariant-loop-i
invariant-loop-i g l = l.last ≤ length l.bytes.items
