-- What a stream has written when memory is refused.
use Rattle.std.proofs.Common.{◌≡◌, inl, inr, ℕ, List, [], take, Ok}
use Rattle.std.specs.Prelude.{Option, Some, None, IfSome}
use Rattle.std.proofs.KnownBytes.{Appends-nil}
use Rattle.fleet_model.specs.Contents.{Contents}
use Rattle.script_reader.specs.Reading.{script_of}
use Rattle.photo_script.specs.Reports.{Answer, Tells}
use Rattle.fleet_model.specs.Runs.{run, reports_of}
use Rattle.fleet_steps.specs.Outcomes.{AreRight}
use Rattle.fleet_steps.specs.Laws.{AcceptedStaysSound}
use Rattle.run_error.specs.declared.error.RunError.{RunError}
use Rattle.fleet_runner.specs.Outputs.{AppendsFirst, WritesFirst, IsOfWriting, IsOfPlainRun}
use Rattle.fleet_model.proofs.Zipped.{zip_take}

-- nothing
pub nothing_first : AcceptedStaysSound → (input writer : Option (List ℕ)) (script : Contents) → IfSome input (λ bytes. script_of bytes ≡ Ok script) → IfSome input (WritesFirst writer writer)
nothing_first law None writer script read = tt
nothing_first law (Some bytes) writer script read = record { script = script; read = read; sound = law bytes script read; answers = []; right = tt; written = Appends-nil writer }

-- the texts of some first reports of the whole run
pub some_first : AcceptedStaysSound → (input old new : Option (List ℕ)) (script : Contents) (answers : List Answer) → IfSome input (λ bytes. script_of bytes ≡ Ok script) → AreRight script answers → AppendsFirst old new script answers → IfSome input (WritesFirst old new)
some_first law None old new script answers read right first = tt
some_first law (Some bytes) old new script answers read right first = record {
  script = script;
  read = read;
  sound = law bytes script read;
  answers = take first.count answers;
  right = zip_take Tells first.count answers (reports_of (run script)) right;
  written = first.written;
}

-- an error of writing can come from a run without an order and without workers
pub of_plain_run : (e : RunError) → IsOfWriting e → IsOfPlainRun e
of_plain_run e (inl memory) = (λ order. cc, λ worker. cc)
of_plain_run e (inr write) = (λ order. cc, λ worker. cc)
