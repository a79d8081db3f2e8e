-- What a stream writes to its writer.
use Rattle.std.specs.Prelude.{◌≡◌, ◌≢◌, ◌⊎◌, ℕ, List, ◌++◌, length, take, Option, Ok}
use Rattle.std.specs.List.{AllZip}
use Rattle.std.specs.Io.KnownBytes.{Appends}
use Rattle.fleet_model.specs.Contents.{Contents}
use Rattle.script_reader.specs.Reading.{script_of}
use Rattle.photo_script.specs.Reports.{Answer, Tells, texts_from}
use Rattle.fleet_model.specs.Runs.{run, reports_of}
use Rattle.script_reader.specs.declared.fault.ScriptFault.{ScriptFault}
use Rattle.run_error.specs.declared.error.RunError.{RunError}
use Rattle.run_error.specs.declared.error.RunError.TheVariants.{NoMemory, NoWorker, NotLawful, Script, Write}
use Rattle.fleet_steps.specs.Outcomes.{AreRight}
use Rattle.fleet_model.specs.Sound.{IsSoundThroughout}

-- What a script's run prints: the texts of the right answers. There is at most one such output.
pub record IsOutput (script : Contents) (output : List ℕ) : Type 0 where
  pub answers : List Answer
  pub right : AreRight script answers
  pub texts : output ≡ texts_from script 1 answers

-- exactly the whole texts of some first answers were appended, perhaps of none
pub record AppendsFirst (old new : Option (List ℕ)) (script : Contents) (answers : List Answer) : Type 0 where
  pub count : ℕ
  pub written : Appends old new (texts_from script 1 (take count answers))

-- exactly a front of the bytes was appended
pub record AppendsFront (old new : Option (List ℕ)) (all : List ℕ) : Type 0 where
  pub front : List ℕ
  pub rest : List ℕ
  pub whole : front ++ rest ≡ all
  pub written : Appends old new front

-- The input is the text of a script, and exactly what its run prints was appended. After each command of that run each device
-- is sound, and no current version is lost.
pub record WritesOutput (old new : Option (List ℕ)) (input : List ℕ) : Type 0 where
  pub script : Contents
  pub read : script_of input ≡ Ok script
  pub sound : IsSoundThroughout script
  pub output : List ℕ
  pub printed : IsOutput script output
  pub written : Appends old new output

-- the same, where exactly the whole texts of some first reports were appended, perhaps of none
pub record WritesFirst (old new : Option (List ℕ)) (input : List ℕ) : Type 0 where
  pub script : Contents
  pub read : script_of input ≡ Ok script
  pub sound : IsSoundThroughout script
  pub answers : List Answer
  pub right : AllZip Tells answers (take (length answers) (reports_of (run script)))
  pub written : Appends old new (texts_from script 1 answers)

-- the same, where a front of what the run prints was appended
pub record WritesFront (old new : Option (List ℕ)) (input : List ℕ) : Type 0 where
  pub script : Contents
  pub read : script_of input ≡ Ok script
  pub sound : IsSoundThroughout script
  pub output : List ℕ
  pub printed : IsOutput script output
  pub written : AppendsFront old new output

-- the error can come from a run command by command, which has neither an order nor workers
abbrev pub IsOfPlainRun : RunError → Type 0
IsOfPlainRun e = (e ≢ NotLawful) × (e ≢ NoWorker)

-- the error can come from a run by workers, which has no order
abbrev pub IsOfWorkersRun : RunError → Type 0
IsOfWorkersRun e = e ≢ NotLawful

-- the error is a fault of the script
abbrev pub IsOfReading : RunError → Type 0
IsOfReading e = (fault : ScriptFault) × (e ≡ Script fault)

-- the error comes from writing: `NoMemory` or `Write`
abbrev pub IsOfWriting : RunError → Type 0
IsOfWriting e = (e ≡ NoMemory) ⊎ (e ≡ Write)
