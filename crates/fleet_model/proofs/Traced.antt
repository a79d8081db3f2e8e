-- What devices know and hold comes from the log, and each entry of the log comes from a device.
use Rattle.std.specs.Prelude.{◌≡◌, ℕ, ◌<◌, ◌≤◌, true, false, List, length}
use Rattle.photo_version.specs.Author.{device_of_author, is_earlier_epoch}
use Rattle.photo_version.specs.Version.{Version}
use Rattle.photo_model.specs.Entry.{Entry}
use Rattle.photo_model.specs.Device.{ModelDevice, known, holds}
use Rattle.fleet_model.specs.Runs.{device_at}
use Rattle.fleet_model.specs.Members.{In}
use Rattle.fleet_model.specs.Sound.{occurrences}

-- some entry of the log is of that version
pub record IsMade (log : List Entry) (v : Version) : Type 0 where
  pub entry : Entry
  pub logged : In entry log
  pub is : entry.version ≡ v

-- the log has each version at most once, and its histories have only versions of the log
pub record IsTracedLog (log : List Entry) : Type 0 where
  pub once : (v : Version) → occurrences v log ≤ 1
  pub distinct : (e f : Entry) → In e log → In f log → e.version ≡ f.version → e ≡ f
  pub made_only : (w : Entry) → In w log → (v : Version) → w.history v ≡ true → IsMade log v

-- the device knows only versions of the log and holds only entries of the log
pub record IsTracedDevice (log : List Entry) (d : ModelDevice) : Type 0 where
  pub made_only : (p : ℕ) (v : Version) → known d p v ≡ true → IsMade log v
  pub logged : (e : Entry) → In e (holds d) → In e log

-- the version's author is one of the devices, in an epoch that has begun; in the device's present epoch, its counter has
-- reached the version
pub record IsCounted (devices : List ModelDevice) (v : Version) : Type 0 where
  pub within : device_of_author v.author < length devices
  pub begun : is_earlier_epoch (device_at devices (device_of_author v.author)).author v.author ≡ false
  pub reached : v.author ≡ (device_at devices (device_of_author v.author)).author → v.number ≤ (device_at devices (device_of_author v.author)).counter

pub record IsTraced (log : List Entry) (devices : List ModelDevice) : Type 0 where
  pub log_is : IsTracedLog log
  pub author : (k : ℕ) → k < length devices → device_of_author (device_at devices k).author ≡ k
  pub counted : (e : Entry) → In e log → IsCounted devices e.version
  pub each : (k : ℕ) → k < length devices → IsTracedDevice log (device_at devices k)
