-- What settling leaves of a device.
use Rattle.std.specs.Prelude.{Bool, not, filter}
use Rattle.photo_version.specs.Author.{Author}
use Rattle.photo_model.specs.Device.{ModelDevice}
use Rattle.photo_device.specs.declared.held.Held.{Held}
use Rattle.photo_device.specs.Held.{entry_of}
use Rattle.household_model.specs.Replica as model
use Rattle.receipted_device.specs.Receipts.{receipts_in}
use Rattle.receipted_device.specs.Shown.{KeptReplica}

-- the copy has a receipt for the version, from this giver
abbrev pub is_settled : Author → KeptReplica → Held → Bool
is_settled giver copy h = receipts_in copy.receipts (model.receipt_for giver (entry_of h))

-- the device without what is settled by the copy
abbrev pub settled : ModelDevice → model.Replica → ModelDevice
settled d copy = record d { out = filter (λ e. not (model.is_receipted d copy e)) d.out }
