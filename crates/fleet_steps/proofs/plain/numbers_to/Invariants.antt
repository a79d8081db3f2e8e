use Rattle.std.proofs.Common.{◌≡◌}
use Rattle.fleet_model.specs.Runs.{numbers_to}
use Rattle.fleet_steps.proofs.plain.numbers_to.Given as goal

abbrev pub invariant-loop-place : goal.invariant-loop-place
invariant-loop-place l = l.numbers.items ≡ numbers_to l.place
