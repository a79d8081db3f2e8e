use Rattle.std.specs.Prelude.{◌≡◌}
use Rattle.test_batches.proofs.ledgers.pull.Given as goal

abbrev pub invariant-loop : goal.invariant-loop
invariant-loop g l = l.share ≡ l.initial.share
