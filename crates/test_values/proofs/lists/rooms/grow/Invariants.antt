use Rattle.std.proofs.Common.{◌-◌, ◌≤◌, length}
use Rattle.test_values.proofs.lists.rooms.grow.Given as goal

abbrev pub invariant-loop-number : goal.invariant-loop-number
invariant-loop-number l = length l.numbers - l.number-index ≤ l.roomy.more
