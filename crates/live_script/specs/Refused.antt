-- Why bytes give no reports.
use Rattle.std.specs.Prelude.{◌≡◌, ◌≢◌, ℕ, List, Err, IsOk}
use Rattle.script_reader.specs.Reading.{script_of, MayWantMemory}
use Rattle.script_reader.specs.declared.fault.ScriptFault.{ScriptFault}
use Rattle.script_reader.specs.declared.fault.ScriptFault.TheVariants as fault
use Rattle.live_script.specs.declared.refusal.Refusal.{Refusal}
use Rattle.live_script.specs.declared.refusal.Refusal.TheVariants as refusal

-- the bytes are the text of a script
abbrev pub IsScript : List ℕ → Type 0
IsScript bytes = IsOk (script_of bytes)

-- the bytes have the fault, and none before it. Want of memory is told only where reading them may ask for memory
pub record IsFaultOf (bytes : List ℕ) (found : ScriptFault) : Type 0 where
  pub first : found ≢ fault.NoMemory → script_of bytes ≡ Err found
  pub memory : found ≡ fault.NoMemory → MayWantMemory bytes

-- the bytes have the fault, or they are a script, and memory was refused for its run or for its texts
abbrev pub IsWhy : List ℕ → Refusal → Type 0
IsWhy bytes (refusal.Script found) = IsFaultOf bytes found
IsWhy bytes refusal.NoMemory = IsScript bytes
