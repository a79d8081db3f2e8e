use Rattle.std.proofs.Common.{◌≡◌, not, take}
use Rattle.std.specs.Prelude.{filter}
use Rattle.live_fleet.specs.Standing.{holds, numbers_of}
use Rattle.live_fleet.proofs.questions.standing.lacking.Given as goal

abbrev pub invariant-loop-device : goal.invariant-loop-device
invariant-loop-device l = l.numbers.items ≡ numbers_of (filter (λ d. not (holds l.picture d)) (take l.device-index l.device-items))
