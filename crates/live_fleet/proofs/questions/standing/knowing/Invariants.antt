use Rattle.std.proofs.Common.{◌≡◌, take}
use Rattle.std.specs.Prelude.{filter}
use Rattle.live_fleet.specs.Standing.{knows_of, numbers_of}
use Rattle.live_fleet.proofs.questions.standing.knowing.Given as goal

abbrev pub invariant-loop-device : goal.invariant-loop-device
invariant-loop-device l = l.numbers.items ≡ numbers_of (filter (knows_of l.fleet.log l.picture) (take l.device-index l.device-items))
