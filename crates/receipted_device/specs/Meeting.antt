-- Which replicas may meet.
use Rattle.std.specs.Prelude.{◌≡◌, ℕ, ◌<◌, false, true, ◌≤◌}
use Rattle.photo_version.specs.Author.{same_device, is_earlier_epoch}
use Rattle.photo_version.specs.Version.{Version}
use Rattle.photo_model.specs.Entry.{Entry}
use Rattle.photo_model.specs.Device.{ModelDevice, known, holds}
use Rattle.fleet_model.specs.Members.{In}
use Rattle.household_model.specs.Replica as model
use Rattle.receipted_device.specs.Shown.{KeptReplica, ShowsReplica}

-- the device may take from the copied one: they are two devices; a version that both hold is of one picture; and the copied one
-- knows no version of a picture that the device hasn't made in its present epoch, nor any of a later epoch
pub record MayTake (d copied : ModelDevice) : Type 0 where
  pub differ : same_device d.author copied.author ≡ false
  pub one : (e g : Entry) → In e (holds d) → In g (holds copied) → e.version ≡ g.version → e.picture ≡ g.picture
  pub made : (picture : ℕ) (v : Version) → 0 < picture → known copied picture v ≡ true → v.author ≡ d.author → v.number ≤ d.counter
  pub begun : (picture : ℕ) (v : Version) → 0 < picture → known copied picture v ≡ true → is_earlier_epoch d.author v.author ≡ false

-- so it is of whatever replicas these show
abbrev pub MayMeet : KeptReplica → KeptReplica → Type 0
MayMeet r copy = (m c : model.Replica) → ShowsReplica r m → ShowsReplica copy c → MayTake m.device c.device
