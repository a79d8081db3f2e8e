-- What a run in an order has written when memory is refused.
use Rattle.std.proofs.Common.{◌≡◌, ℕ, List, take, Ok}
use Rattle.std.specs.Prelude.{Option, Some, None, IfSome}
use Rattle.fleet_model.specs.Contents.{Contents}
use Rattle.script_reader.specs.Reading.{script_of}
use Rattle.photo_script.specs.Reports.{Answer, Tells}
use Rattle.fleet_model.specs.Runs.{run, reports_of}
use Rattle.photo_batcher.specs.Orders.{IsLawful}
use Rattle.fleet_steps.specs.Outcomes.{AreRight}
use Rattle.fleet_model.specs.Sound.{IsSoundThroughout}
use Rattle.fleet_model.proofs.Zipped.{zip_take}
use Rattle.fleet_runner.specs.Outputs.{AppendsFirst}
use Rattle.fleet_runner.specs.OrderStreams.{WritesReplayFirst}

-- the script that was read has run in a lawful order and gave these answers
pub record HasReplayed (input : Option (List ℕ)) (script : Contents) (order : List ℕ) (answers : List Answer) : Type 0 where
  pub read : IfSome input (λ bytes. script_of bytes ≡ Ok script)
  pub lawful : IsLawful script order
  pub sound : IsSoundThroughout script
  pub right : AreRight script answers

-- the texts of some first reports of the whole run
pub some_printed : (input old new : Option (List ℕ)) (script : Contents) (order : List ℕ) (answers : List Answer) → HasReplayed input script order answers
    → AppendsFirst old new script answers → IfSome input (WritesReplayFirst order old new)
some_printed None old new script order answers h first = tt
some_printed (Some bytes) old new script order answers h first = (
  record { script = script; read = h.read; lawful = h.lawful },
  record {
    script = script;
    read = h.read;
    sound = h.sound;
    answers = take first.count answers;
    right = zip_take Tells first.count answers (reports_of (run script)) h.right;
    written = first.written;
  },
)
