-- Laws of all runs.
use Rattle.std.specs.Prelude.{ℕ, ◌≤◌, List, length}
use Rattle.fleet_model.specs.Contents.{Contents, IsScript}
use Rattle.fleet_model.specs.Runs.{run_in_order, numbers_to}
use Rattle.fleet_model.specs.Sound.{IsSoundAndKept}

-- before the first command of a script and after each command, all devices are sound, nothing current is lost, and nothing is
-- made twice (`IsSoundAndKept`)
abbrev pub StaysSoundAndKept : Type 0
StaysSoundAndKept = (script : Contents) (n : ℕ) → IsScript script → IsSoundAndKept (run_in_order script (numbers_to n))

-- `IsSoundAndKept` holds after any commands of the script in any order, repeated or not, up to 4,294,967,295 of them: a device
-- can begin that many epochs
abbrev pub StaysSoundInAnyOrder : Type 0
StaysSoundInAnyOrder = (script : Contents) (numbers : List ℕ) → IsScript script → length numbers ≤ 4_294_967_295 → IsSoundAndKept (run_in_order script numbers)
