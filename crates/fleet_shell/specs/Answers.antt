-- What a line does to the lines that were taken, and what is answered.
use Rattle.std.specs.Prelude.{◌≡◌, ◌++◌, ℕ, List, [], ◌∷◌, Option, Some, None, codes, string_bytes}
use Rattle.script_reader.specs.declared.fault.ScriptFault.{ScriptFault}
use Rattle.live_script.specs.Refused.{IsFaultOf}
use Rattle.fleet_shell.specs.Lines.{IsLast, Tells, with_line}
use Rattle.fleet_shell.specs.declared.answer.Answer.{Answer}
use Rattle.fleet_shell.specs.declared.answer.Answer.TheVariants.{Report, Fault, Said, TakenBack, NoMemory, Quit}

-- the line was taken, and that is told of it
pub record IsTaken (old : Option (List ℕ)) (line : List ℕ) (new : Option (List ℕ)) (told : List ℕ) : Type 0 where
  pub lines : new ≡ Some (with_line old line)
  pub tells : Tells old line told

-- the lines with this one have the fault, and are as they were
pub record IsRefused (old : Option (List ℕ)) (line : List ℕ) (new : Option (List ℕ)) (fault : ScriptFault) : Type 0 where
  pub lines : new ≡ old
  pub right : IsFaultOf (with_line old line) fault

-- a line of a script: it is taken and told, or it isn't taken and its fault is explained, or memory was refused
abbrev pub IsGiven : Option (List ℕ) → List ℕ → Option (List ℕ) → Answer → Type 0
IsGiven old line new (Report told) = IsTaken old line new told.items
IsGiven old line new (Fault fault text) = IsRefused old line new fault
IsGiven old line new (Said text) = ⊥
IsGiven old line new (TakenBack last) = ⊥
IsGiven old line new NoMemory = new ≡ old
IsGiven old line new Quit = ⊥

-- `undo`: the last line is taken back, or there is none, or memory was refused
abbrev pub IsUndone : Option (List ℕ) → Option (List ℕ) → Answer → Type 0
IsUndone old new (Report told) = ⊥
IsUndone old new (Fault fault text) = ⊥
IsUndone old new (Said text) = (old ≡ None) × (new ≡ old)
IsUndone old new (TakenBack last) = IsLast old new last.items
IsUndone old new NoMemory = new ≡ old
IsUndone old new Quit = ⊥

-- what is written of an answer
abbrev pub shown : Answer → List ℕ
shown (Report told) = told.items
shown (Fault fault text) = string_bytes text
shown (Said text) = string_bytes text
shown (TakenBack last) = codes "taken back: " ++ last.items ++ 10 ∷ []
shown NoMemory = codes "run error: E1 NoMemory\n"
shown Quit = []
