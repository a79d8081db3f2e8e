-- What a call tells of bytes that give no reports.
use Rattle.std.specs.Prelude.{ℕ, List}
use Rattle.script_reader.specs.declared.fault.ScriptFault.{ScriptFault}
use Rattle.live_script.specs.Refused.{IsFaultOf}
use Rattle.photofleet_c.specs.Lines.{fault_line, want_line}
use Rattle.photofleet_c.specs.Placed.{IsOffered}

-- the bytes have a fault, of which the line is offered
pub record TellsFault (bytes old new : List ℕ) (written : ℕ) : Type 0 where
  pub found : ScriptFault
  pub right : IsFaultOf bytes found
  pub told : IsOffered old new written (fault_line found)

-- the line of want of memory is offered
abbrev pub TellsWant : List ℕ → List ℕ → ℕ → Type 0
TellsWant old new written = IsOffered old new written want_line
