-- What the run of a script in memory prints.
use Rattle.std.specs.Prelude.{◌≡◌, ℕ, List, Ok}
use Rattle.fleet_model.specs.Contents.{Contents}
use Rattle.script_reader.specs.Reading.{script_of}
use Rattle.photo_script.specs.Reports.{Answer, texts_from}
use Rattle.fleet_steps.specs.Outcomes.{AreRight}
use Rattle.fleet_model.specs.Sound.{IsSoundThroughout}

-- what a script's run prints: the texts of the right answers
pub record IsOutput (script : Contents) (text : List ℕ) : Type 0 where
  pub answers : List Answer
  pub right : AreRight script answers
  pub texts : text ≡ texts_from script 1 answers

-- the bytes are the text of a script, and the text is what its run prints; and after each command of that run each device is
-- sound, and nothing that is current is lost
pub record IsPrinted (bytes text : List ℕ) : Type 0 where
  pub script : Contents
  pub read : script_of bytes ≡ Ok script
  pub sound : IsSoundThroughout script
  pub printed : IsOutput script text
