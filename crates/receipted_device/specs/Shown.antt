-- What contracts see of a device with receipts, and the model replica that it shows.
use Rattle.std.specs.Prelude.{◌≡◌, List}
use Rattle.photo_device.specs.Device.{Kept, Shows}
use Rattle.household_model.specs.Replica as model
use Rattle.receipted_device.specs.declared.receipt.Receipt.{Receipt}
use Rattle.receipted_device.specs.Receipts.{receipts_in}

-- a device, and its receipts in their order
pub record KeptReplica : Type 0 where
  pub device : Kept
  pub receipts : List Receipt

-- it shows the model replica
pub record ShowsReplica (r : KeptReplica) (m : model.Replica) : Type 0 where
  pub device : Shows r.device m.device
  pub receipts : (q : model.Receipt) → m.receipts q ≡ receipts_in r.receipts q
