-- Laws of all runs.
use Rattle.std.specs.Prelude.{◌≡◌, ◌+◌, ◌<◌, ◌≤◌, ℕ, List, length, Ok}
use Rattle.std.specs.List.{AllZip, AllByRecursion}
use Rattle.photo_filter_text.specs.Tree.{Tree}
use Rattle.photo_device.specs.Device.{Kept, Shows}
use Rattle.fleet_model.specs.Limits.{max_commands}
use Rattle.fleet_model.specs.Contents.{Contents, IsWithin, IsScript}
use Rattle.script_reader.specs.Reading.{script_of}
use Rattle.photo_script.specs.Reports.{Answer, Tells}
use Rattle.fleet_model.specs.declared.command.Command.{Command}
use Rattle.fleet_model.specs.Runs.{opening_from, run_in_order}
use Rattle.photo_script.specs.Tallies.{moved_by}
use Rattle.fleet_model.specs.Steps.{effect_on}
use Rattle.fleet_steps.specs.Between.{AreReady, HaveMadeAtMost, HaveRoom, HaveRun}
use Rattle.fleet_steps.specs.Outcomes.{AreRight}
use Rattle.fleet_model.specs.Sound.{IsSoundThroughout}

-- every text that is accepted as a script gives a script whose runs are sound throughout
abbrev pub AcceptedStaysSound : Type 0
AcceptedStaysSound = (text : List ℕ) (script : Contents) → script_of text ≡ Ok script → IsSoundThroughout script

-- After at most 4,294,967,295 commands of a script, in any order, the right answer to one more reports no more versions taken
-- and handed over, added together, than commands have run before it.
abbrev pub PullsMoveWhatWasMade : Type 0
PullsMoveWhatWasMade = (script : Contents) (numbers : List ℕ) (c : Command) (answer : Answer) → IsScript script → length numbers ≤ 4_294_967_295 → IsWithin (length script.names) c
    → Tells answer (effect_on (run_in_order script numbers).devices c).report → moved_by answer ≤ length numbers

-- no pull of a run moves more versions than a script can have commands
abbrev pub PullsMoveFew : Type 0
PullsMoveFew = (script : Contents) (answers : List Answer) → IsScript script → AreRight script answers → AllByRecursion (λ a. moved_by a ≤ max_commands) answers

-- the devices that a script opens with are ready for a command and have made nothing
abbrev pub OpensReady : Type 0
OpensReady = (devices : List Kept) (filters : List Tree) → AllZip Shows devices (opening_from 0 filters) → AreReady devices × HaveMadeAtMost 0 devices

-- After a command, ready devices are ready for one more, and each has made at most one more version or begun at most one more
-- epoch. So whoever runs commands one after another has what the next command requires.
abbrev pub StaysReady : Type 0
StaysReady = (old new : List Kept) (c : Command) (n : ℕ) → AreReady old → HaveMadeAtMost n old → n < 4_294_967_295 → IsWithin (length old) c → HaveRun c old new → AreReady new × HaveMadeAtMost (n + 1) new

-- devices that have made so few versions may make one more, and begin one more epoch
abbrev pub LeavesRoom : Type 0
LeavesRoom = (devices : List Kept) (n : ℕ) → n < 4_294_967_295 → HaveMadeAtMost n devices → HaveRoom devices
