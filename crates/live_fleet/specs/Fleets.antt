-- Fleets that run one command after another.
use Rattle.std.specs.Prelude.{◌≡◌, ℕ, ◌+◌, ◌≤◌, List, [], ◌∷◌, ◌++◌, length, Some, IfSome}
use Rattle.std.specs.List.{AllZip, AllByRecursion}
use Rattle.photo_filter_text.specs.Tree.{Tree}
use Rattle.photo_filter_rules.specs.Matching.{IsInRange}
use Rattle.photo_version.specs.Author.{author}
use Rattle.photo_device.specs.declared.held.Held.{Held}
use Rattle.photo_device.specs.Held.{entries_of}
use Rattle.photo_model.specs.Device.{opening}
use Rattle.photo_device.specs.Device.{Kept, Shows}
use Rattle.fleet_model.specs.declared.command.Command.{Command}
use Rattle.fleet_model.specs.Contents.{Contents, contents, IsWithin, command_of, record_of}
use Rattle.photo_script.specs.Reports.{Answer, Tells, IsAbout}
use Rattle.fleet_model.specs.Runs.{Fleet, after_command, run, run_in_order, numbers_to}
use Rattle.fleet_model.specs.Steps.{effect_on}
use Rattle.fleet_steps.specs.Between.{AreSettled}
use Rattle.fleet_model.specs.Sound.{IsSoundAndKept}

-- what a fleet keeps: its devices in order of declaration, its log of the versions that were made, oldest first, and how many
-- commands have run
pub record KeptFleet : Type 0 where
  pub devices : List Kept
  pub log : List Held
  pub commands : ℕ

-- the model fleet of a script's run
abbrev pub ModelFleet : Type 0
ModelFleet = Fleet

-- the fleet shows the model fleet, except for its reports, which a fleet doesn't keep
pub record ShowsFleet (f : KeptFleet) (m : ModelFleet) : Type 0 where
  pub devices : AllZip Shows f.devices m.devices
  pub log : entries_of f.log ≡ m.log

-- The model fleet after those commands, from empty devices with those filters. A run of a script gives the same, since names of
-- devices play no part in it.
abbrev pub after_commands : List Tree → List Command → ModelFleet
after_commands filters commands = run (contents [] filters commands)

-- two model fleets with the same devices and the same log
pub record AreAlike (f g : ModelFleet) : Type 0 where
  pub devices : f.devices ≡ g.devices
  pub log : f.log ≡ g.log

-- if a run gets one more command, whatever its number, the new run is that command's effect on the old one
abbrev pub RunsGrowByCommands : Type 0
RunsGrowByCommands = (filters : List Tree) (commands : List Command) (number : ℕ) (c : Command) → AreAlike (after_commands filters (commands ++ c ∷ [])) (after_command (after_commands filters commands) number c)

-- Some commands led to this fleet. Each works on devices of the fleet; any rating and day that it gives is in range. At most
-- 4,294,967,295 commands have run, as many as a device has further epochs, and no device has anything staged.
pub record CameAbout (f : KeptFleet) : Type 0 where
  pub filters : List Tree
  pub commands : List Command
  pub within : AllByRecursion (IsWithin (length filters)) commands
  pub in_range : AllByRecursion (λ c. IfSome (record_of c) IsInRange) commands
  pub shown : ShowsFleet f (after_commands filters commands)
  pub count : f.commands ≡ length commands
  pub few : f.commands ≤ 4_294_967_295
  pub settled : AreSettled f.devices

-- The fleet came about by commands. Each device is sound, no current version is lost, every version held is in the log, and
-- none is logged twice.
pub record HasSoundHistory (f : KeptFleet) : Type 0 where
  pub came : CameAbout f
  pub sound : IsSoundAndKept (after_commands came.filters came.commands)

-- The command has run: for any model fleet that the old fleet shows, the new one shows the command's effect on it. The count of
-- commands has grown by one.
pub record HasRun (c : Command) (old new : KeptFleet) : Type 0 where
  pub shows : (m : ModelFleet) → ShowsFleet old m → ShowsFleet new (after_command m new.commands c)
  pub count : new.commands ≡ old.commands + 1

-- the answer is right for that command on that fleet
abbrev pub IsAnswerTo : Command → KeptFleet → Answer → Type 0
IsAnswerTo c old answer = (m : ModelFleet) → ShowsFleet old m → Tells answer (effect_on m.devices c).report

-- the answer names only devices of the fleet, so a script with as many devices has a name for each
abbrev pub SpeaksOf : KeptFleet → Answer → Type 0
SpeaksOf f answer = (script : Contents) → length f.devices ≤ length script.names → IsAbout script answer

-- the model fleet with one more device at its end, which has that filter and has made and holds nothing
abbrev pub with_device : Tree → ModelFleet → ModelFleet
with_device filter m = record m { devices = m.devices ++ opening (author (length m.devices)) filter ∷ [] }

-- A device with that filter has joined at the end: for any model fleet that the old fleet shows, the new one shows it with that
-- device added. No command has run.
pub record HasJoined (filter : Tree) (old new : KeptFleet) : Type 0 where
  pub shows : (m : ModelFleet) → ShowsFleet old m → ShowsFleet new (with_device filter m)
  pub count : new.commands ≡ old.commands

-- if a fleet shows the run of a script's first n commands and command n + 1 runs on it, it shows the run of the first n + 1
abbrev pub RunsAlongScripts : Type 0
RunsAlongScripts = (script : Contents) (n : ℕ) (c : Command) (old new : KeptFleet) → command_of script (n + 1) ≡ Some c → ShowsFleet old (run_in_order script (numbers_to n)) → HasRun c old new → ShowsFleet new (run_in_order script (numbers_to (n + 1)))
