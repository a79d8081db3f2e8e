-- What a run in an order, and a plan, write.
use Rattle.std.specs.Prelude.{◌≡◌, ℕ, ◌+◌, ◌-◌, ◌≤◌, List, ◌++◌, length, Option, Ok, IsOk}
use Rattle.std.specs.Io.KnownBytes.{Appends}
use Rattle.fleet_model.specs.Contents.{Contents}
use Rattle.script_reader.specs.Reading.{script_of}
use Rattle.photo_batcher.specs.Orders.{IsLawful}
use Rattle.photo_batcher.specs.Plans.{Planned, IsPlan}
use Rattle.fleet_runner.specs.Outputs.{AppendsFront, WritesOutput, WritesFirst, WritesFront}
use Rattle.fleet_runner.specs.PlanTexts.{lines_from, plan_text}

-- the input is the text of a script
abbrev pub IsScript : List ℕ → Type 0
IsScript input = IsOk (script_of input)

-- the input is the text of a script, and the order is a lawful order of its commands
pub record IsLawfulFor (input order : List ℕ) : Type 0 where
  pub script : Contents
  pub read : script_of input ≡ Ok script
  pub lawful : IsLawful script order

-- the input is the text of a script, and the order isn't lawful
pub record IsUnlawfulFor (input order : List ℕ) : Type 0 where
  pub script : Contents
  pub read : script_of input ≡ Ok script
  pub unlawful : IsLawful script order → ⊥

-- the input is the text of a script, and exactly the text of its plan was appended
pub record WritesPlan (old new : Option (List ℕ)) (input : List ℕ) : Type 0 where
  pub script : Contents
  pub read : script_of input ≡ Ok script
  pub plan : Planned
  pub is_plan : IsPlan script plan
  pub written : Appends old new (plan_text plan)

-- exactly the lines of the plan's first `count` commands were appended: the lines of the others and the last line are left
pub record AppendsLines (old new : Option (List ℕ)) (plan : Planned) : Type 0 where
  pub count : ℕ
  pub few : count ≤ length plan.batches
  pub front : List ℕ
  pub whole : front ++ lines_from plan (count + 1) (length plan.batches - count) ≡ plan_text plan
  pub written : Appends old new front

-- the input is the text of a script, and exactly the lines of some first commands of its plan were appended, perhaps of none
pub record WritesPlanFirst (old new : Option (List ℕ)) (input : List ℕ) : Type 0 where
  pub script : Contents
  pub read : script_of input ≡ Ok script
  pub plan : Planned
  pub is_plan : IsPlan script plan
  pub written : AppendsLines old new plan

-- the same, where a front of the plan's text was appended
pub record WritesPlanFront (old new : Option (List ℕ)) (input : List ℕ) : Type 0 where
  pub script : Contents
  pub read : script_of input ≡ Ok script
  pub plan : Planned
  pub is_plan : IsPlan script plan
  pub written : AppendsFront old new (plan_text plan)

-- the order is lawful, and exactly what the run command by command prints was appended
abbrev pub WritesReplay : List ℕ → Option (List ℕ) → Option (List ℕ) → List ℕ → Type 0
WritesReplay order old new input = IsLawfulFor input order × WritesOutput old new input

-- the same, where exactly the whole texts of some first reports were appended, perhaps of none
abbrev pub WritesReplayFirst : List ℕ → Option (List ℕ) → Option (List ℕ) → List ℕ → Type 0
WritesReplayFirst order old new input = IsLawfulFor input order × WritesFirst old new input

-- the same, where a front of what the run prints was appended
abbrev pub WritesReplayFront : List ℕ → Option (List ℕ) → Option (List ℕ) → List ℕ → Type 0
WritesReplayFront order old new input = IsLawfulFor input order × WritesFront old new input
