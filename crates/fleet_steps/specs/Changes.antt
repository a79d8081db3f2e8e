-- Machinery of the proofs: the answer to a change of a picture.
use Rattle.std.specs.Prelude.{Option, Some, None, Result, Ok, Err}
use Rattle.photo_version.specs.Version.{Version}
use Rattle.photo_model.specs.declared.place.Place.{Place}
use Rattle.photo_device.specs.declared.fault.ChangeFault.{ChangeFault}
use Rattle.photo_device.specs.declared.fault.ChangeFault.TheVariants as change
use Rattle.fleet_model.specs.Answers.{Made, NotHeld}
use Rattle.photo_script.specs.Reports.{Plain, Answer}

-- the answer to a change, unless memory was refused
abbrev pub told_of : Result (Version × Place) ChangeFault → Option Answer
told_of (Ok made) = Some (Plain (Made made.0 made.1))
told_of (Err change.NotHeld) = Some (Plain NotHeld)
told_of (Err change.NoMemory) = None
