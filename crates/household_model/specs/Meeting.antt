-- What a pull asks of a device and a copy of another one.
use Rattle.std.specs.Prelude.{◌≡◌, ℕ, ◌≤◌, true, false}
use Rattle.photo_version.specs.Author.{same_device, is_earlier_epoch}
use Rattle.photo_version.specs.Version.{Version}
use Rattle.photo_model.specs.Entry.{Entry}
use Rattle.photo_model.specs.Device.{ModelDevice, known, holds}
use Rattle.fleet_model.specs.Members.{In}
use Rattle.fleet_model.specs.Ready.{IsKnownTo}
use Rattle.household_model.specs.Replica.{Receipt, Replica}

-- the device has reached the version: that is of no later epoch than the device's present one; and if it is of the present one,
-- the device has made it
pub record HasReached (d : ModelDevice) (v : Version) : Type 0 where
  pub begun : is_earlier_epoch d.author v.author ≡ false
  pub counted : v.author ≡ d.author → v.number ≤ d.counter

-- the second device knows only versions that the first one has reached
abbrev pub KnowsOnlyReached : ModelDevice → ModelDevice → Type 0
KnowsOnlyReached d other = (picture : ℕ) (v : Version) → known other picture v ≡ true → HasReached d v

-- the device has reached what the receipt names: its version, and its giver's epoch
pub record HasReachedReceipt (d : ModelDevice) (q : Receipt) : Type 0 where
  pub version : HasReached d q.version
  pub giver : is_earlier_epoch d.author q.giver ≡ false

-- the device may pull from the copy. They are of two devices. A version that both hold is one entry. Neither knows a version
-- that the device hasn't reached, nor has the copy a receipt for one; nor does the copy know a version that it hadn't reached
-- itself. Each knows what it holds, with its history
pub record MayPullCopy (d : ModelDevice) (copy : Replica) : Type 0 where
  pub differ : same_device d.author copy.device.author ≡ false
  pub one : (e g : Entry) → In e (holds d) → In g (holds copy.device) → e.version ≡ g.version → e ≡ g
  pub itself : KnowsOnlyReached d d
  pub knowledge : KnowsOnlyReached d copy.device
  pub receipts : (q : Receipt) → copy.receipts q ≡ true → HasReachedReceipt d q
  pub copy_itself : KnowsOnlyReached copy.device copy.device
  pub held : (e : Entry) → In e (holds d) → IsKnownTo d e
  pub held_by_copy : (e : Entry) → In e (holds copy.device) → IsKnownTo copy.device e
