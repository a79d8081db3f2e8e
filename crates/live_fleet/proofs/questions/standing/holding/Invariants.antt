use Rattle.std.proofs.Common.{◌≡◌, take}
use Rattle.std.specs.Prelude.{filter}
use Rattle.live_fleet.specs.Standing.{holds, numbers_of}
use Rattle.live_fleet.proofs.questions.standing.holding.Given as goal

abbrev pub invariant-loop-device : goal.invariant-loop-device
invariant-loop-device l = l.numbers.items ≡ numbers_of (filter (holds l.picture) (take l.device-index l.device-items))
