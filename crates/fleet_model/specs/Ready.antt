-- Devices that are ready for any pull between two of them. A pull asks less of its two devices.
use Rattle.std.specs.Prelude.{◌≡◌, ℕ, ◌<◌, ◌≤◌, true, false, List, length}
use Rattle.photo_version.specs.Author.{device_of_author, is_earlier_epoch}
use Rattle.photo_version.specs.Version.{Version, version}
use Rattle.photo_model.specs.Entry.{Entry}
use Rattle.photo_model.specs.Device.{ModelDevice, known, knows_entry, holds}
use Rattle.fleet_model.specs.Runs.{device_at}
use Rattle.fleet_model.specs.Members.{In}

-- the device knows, for the entry's picture, the entry's version and its history
pub record IsKnownTo (d : ModelDevice) (e : Entry) : Type 0 where
  pub itself : knows_entry d e ≡ true
  pub history : (v : Version) → e.history v ≡ true → known d e.picture v ≡ true

-- devices that are ready for a pull: each stands at its own number; two devices that hold one version hold the same entry;
-- nobody knows a version that its author hasn't made, or one of a later epoch than its device's; each device knows what it
-- holds, with its history
pub record IsReady (devices : List ModelDevice) : Type 0 where
  pub author : (k : ℕ) → k < length devices → device_of_author (device_at devices k).author ≡ k
  pub one : (t s : ℕ) → t < length devices → s < length devices → (e g : Entry) → In e (holds (device_at devices t)) → In g (holds (device_at devices s)) → e.version ≡ g.version → e ≡ g
  pub own : (t s p n : ℕ) → t < length devices → s < length devices → known (device_at devices s) p (version (device_at devices t).author n) ≡ true → n ≤ (device_at devices t).counter
  pub later : (t s p : ℕ) (v : Version) → t < length devices → s < length devices → is_earlier_epoch (device_at devices t).author v.author ≡ true → known (device_at devices s) p v ≡ false
  pub held : (k : ℕ) → k < length devices → (e : Entry) → In e (holds (device_at devices k)) → IsKnownTo (device_at devices k) e
