-- A law of all households: a live device may take from each copy that it may pull from.
use Rattle.photo_model.specs.Device.{ModelDevice}
use Rattle.household_model.specs.Replica as model
use Rattle.household_model.specs.Meeting.{MayPullCopy}
use Rattle.receipted_device.specs.Meeting.{MayTake}

-- what the household's law says of a device and a copy is all that a pull asks
abbrev pub CopiesMayBeTaken : Type 0
CopiesMayBeTaken = (d : ModelDevice) (copy : model.Replica) → MayPullCopy d copy → MayTake d copy.device
