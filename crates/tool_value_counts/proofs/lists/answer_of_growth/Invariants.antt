use Rattle.std.proofs.Common.{◌-◌, ◌≤◌}
use Rattle.tool_value_counts.proofs.lists.answer_of_growth.Given as goal

abbrev pub invariant-loop-n : goal.invariant-loop-n
invariant-loop-n l = l.times - l.n-counter ≤ l.roomy.more
