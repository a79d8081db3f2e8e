-- Laws of all outputs.
use Rattle.std.specs.Prelude.{◌≡◌, ℕ, List}
use Rattle.fleet_model.specs.Contents.{Contents}
use Rattle.fleet_runner.specs.Outputs.{IsOutput}

-- a script's run has at most one output
abbrev pub OutputsAreOne : Type 0
OutputsAreOne = (script : Contents) (first second : List ℕ) → IsOutput script first → IsOutput script second → first ≡ second
