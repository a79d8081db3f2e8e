-- Scripts that run as they grow.
use Rattle.std.specs.Prelude.{◌≡◌, ◌<◌, ◌≤◌, ◌-◌, ℕ, List, ◌∷◌, ◌++◌, length, take, drop, slice_get, Option, Some, IfSome}
use Rattle.fleet_model.specs.declared.command.Command.{Command}
use Rattle.fleet_model.specs.declared.command.CommandKind.TheVariants.{Question}
use Rattle.fleet_model.specs.Contents.{Contents, contents}
use Rattle.fleet_model.specs.Runs.{run}
use Rattle.fleet_model.specs.Tallies.{kind_of}
use Rattle.script_reader.specs.Growing.{Adds, IsGrown, script_in}
use Rattle.script_reader.specs.declared.growing.GrowingScript.{GrowingScript}
use Rattle.script_reader.specs.declared.growing.Said.{Said}
use Rattle.script_reader.specs.declared.growing.Said.TheVariants as said
use Rattle.photo_script.specs.Reports.{Answer}
use Rattle.fleet_steps.specs.Outcomes.{AreRight}
use Rattle.live_fleet.specs.Fleets.{KeptFleet, ShowsFleet}
use Rattle.live_script.specs.Printed.{IsOutput, IsPrinted}

-- a text with a line behind it: an LF stands between them
abbrev pub with_line : List ℕ → List ℕ → List ℕ
with_line text line = text ++ 10 ∷ line

-- what is told of the lines that a longer text has behind those of a text: what its run prints behind what theirs prints
pub record IsTold (text longer told : List ℕ) : Type 0 where
  pub before : List ℕ
  pub after : List ℕ
  pub was : IsPrinted text before
  pub is : IsPrinted longer after
  pub behind : told ≡ drop (length before) after

-- the fleet shows the run of the script
pub record ShowsRun (script : Contents) (fleet : KeptFleet) : Type 0 where
  pub shown : ShowsFleet fleet (run script)
  pub long : length fleet.devices ≡ length script.names

-- Machinery of the proofs, which only contracts of private functions cite

-- the first so many commands of a script
abbrev pub first_of : ℕ → Contents → Contents
first_of n script = contents script.names script.filters (take n script.commands)

-- each command of the script has its right answer
pub record IsAnswered (script : Contents) : Type 0 where
  pub answers : List Answer
  pub right : AreRight script answers
  pub each : length answers ≡ length script.commands

-- the script has grown by the lines of the text, of which there is one at least, and the fleet shows its run, if it is there
pub record IsLive (text : List ℕ) (script : GrowingScript) (fleet : Option KeptFleet) : Type 0 where
  pub grown : IsGrown text script
  pub some : 0 < script.lines
  pub answered : IsAnswered (script_in script)
  pub shown : IfSome fleet (ShowsRun (script_in script))

-- the text is what the run of the longer script prints behind what that of the other one prints
pub record IsToldOf (old new : Contents) (told : List ℕ) : Type 0 where
  pub before : List ℕ
  pub was : IsOutput old before
  pub is : IsOutput new (before ++ told)

-- a script that has grown by lines: those of the old one come first, and where it has commands, no device was added
pub record IsLonger (old new : Contents) : Type 0 where
  pub commands : length old.commands ≤ length new.commands
  pub first : 0 < length old.commands → first_of (length old.commands) new ≡ old

-- a line that says that came behind a script, of which the fleet shows the run, if it is there
pub record ComesBehind (said : Said) (fleet : Option KeptFleet) (new : Contents) : Type 0 where
  pub old : Contents
  pub answered : IsAnswered old
  pub shown : IfSome fleet (ShowsRun old)
  pub adds : Adds said old new

-- the command is the last one of the script
abbrev pub IsLast : Command → Contents → Type 0
IsLast c script = slice_get script.commands (length script.commands - 1) ≡ Some c

-- what that line puts into the script changes nothing that a fleet shows
abbrev pub IsStill : Said → Contents → Type 0
IsStill said.Nothing script = Unit {0}
IsStill said.Device script = ⊥
IsStill said.Command script = (c : Command) → IsLast c script → kind_of c ≡ Question
