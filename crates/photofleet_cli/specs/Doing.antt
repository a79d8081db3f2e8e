-- What each kind of work writes.
use Rattle.std.specs.Prelude.{ℕ, List, Option}
use Rattle.fleet_runner.specs.Outputs.{WritesOutput, WritesFirst, WritesFront}
use Rattle.fleet_runner.specs.OrderStreams.{WritesReplay, WritesReplayFirst, WritesReplayFront, WritesPlan, WritesPlanFirst, WritesPlanFront}
use Rattle.photofleet_cli.specs.Asked.{Work, plain, run, replay, batches}

-- Exactly what the work on a file of those bytes prints was appended. A run by any number of workers prints what the run
-- command by command does, and so does a run in an order, which is lawful.
abbrev pub WritesAll : Option (List ℕ) → Option (List ℕ) → Work → List ℕ → Type 0
WritesAll old new plain input = WritesOutput old new input
WritesAll old new (run workers) input = WritesOutput old new input
WritesAll old new (replay order) input = WritesReplay order old new input
WritesAll old new batches input = WritesPlan old new input

-- the same for the part that want of memory may leave: the whole texts of some first reports, or the lines of a plan's first commands
abbrev pub WritesSome : Option (List ℕ) → Option (List ℕ) → Work → List ℕ → Type 0
WritesSome old new plain input = WritesFirst old new input
WritesSome old new (run workers) input = WritesFirst old new input
WritesSome old new (replay order) input = WritesReplayFirst order old new input
WritesSome old new batches input = WritesPlanFirst old new input

-- the same for the part that a failed write may leave: a front
abbrev pub WritesPart : Option (List ℕ) → Option (List ℕ) → Work → List ℕ → Type 0
WritesPart old new plain input = WritesFront old new input
WritesPart old new (run workers) input = WritesFront old new input
WritesPart old new (replay order) input = WritesReplayFront order old new input
WritesPart old new batches input = WritesPlanFront old new input
