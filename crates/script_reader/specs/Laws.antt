-- A law of all accepted scripts.
use Rattle.std.specs.Prelude.{◌≡◌, ℕ, List, Ok}
use Rattle.fleet_model.specs.Contents.{Contents, IsScript}
use Rattle.script_reader.specs.Reading.{script_of}

-- every accepted text is a script: devices and commands are within the limits, each device has a filter, commands name declared
-- devices, and no device pulls from itself
abbrev pub AcceptedAreScripts : Type 0
AcceptedAreScripts = (text : List ℕ) (script : Contents) → script_of text ≡ Ok script → IsScript script
