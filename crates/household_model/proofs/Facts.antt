-- Facts about the log, the devices, the copies and the receipts that every event keeps. The copies are given as a test of
-- devices. The receipts, those of copies among them, are given as a test of receipts.
use Rattle.std.specs.Prelude.{◌≡◌, ℕ, ◌<◌, true, false, List, length}
use Rattle.photo_version.specs.Author.{is_earlier_epoch}
use Rattle.photo_version.specs.Version.{Version}
use Rattle.photo_model.specs.Entry.{Entry}
use Rattle.photo_model.specs.Device.{ModelDevice, known, knows_entry, holds}
use Rattle.fleet_model.specs.Runs.{device_at}
use Rattle.fleet_model.specs.Members.{In}
use Rattle.fleet_model.proofs.Superseding.{Supersedes}
use Rattle.fleet_model.proofs.Traced.{IsTracedDevice}
use Rattle.fleet_model.proofs.SoundFacts.{IsSoundDevice, IsSoundFleet}
use Rattle.household_model.specs.Replica.{Receipt, receipt_for}
use Rattle.household_model.specs.Meeting.{KnowsOnlyReached}

-- the receipt is for an entry of the log; its giver's epoch has begun; and a device that is still in that epoch knows the entry
pub record IsRightReceipt (log : List Entry) (devices : List ModelDevice) (q : Receipt) : Type 0 where
  pub entry : Entry
  pub logged : In entry log
  pub is : receipt_for q.giver entry ≡ q
  pub begun : (k : ℕ) → k < length devices → is_earlier_epoch (device_at devices k).author q.giver ≡ false
  pub knew : (k : ℕ) → k < length devices → (device_at devices k).author ≡ q.giver → knows_entry (device_at devices k) entry ≡ true

-- the copy is a sound device, though perhaps of long ago; its epoch has begun; a device that is still in that epoch knows what
-- the copy knows; and the copy knows no version that it hadn't reached itself
pub record IsRightCopy (log : List Entry) (devices : List ModelDevice) (c : ModelDevice) : Type 0 where
  pub traced : IsTracedDevice log c
  pub sound : IsSoundDevice log c
  pub begun : (k : ℕ) → k < length devices → is_earlier_epoch (device_at devices k).author c.author ≡ false
  pub grown : (k : ℕ) → k < length devices → (device_at devices k).author ≡ c.author → (p : ℕ) (v : Version) → known c p v ≡ true → known (device_at devices k) p v ≡ true
  pub reached : KnowsOnlyReached c c

-- no receipt says that somebody took the entry from the device in its present epoch
abbrev pub IsUnnamed : (Receipt → Type 0) → ModelDevice → Entry → Type 0
IsUnnamed Named d e = Named (receipt_for d.author e) → ⊥

-- some device holds the entry, and no receipt says that somebody took it from there
pub record IsFreelyHeld (devices : List ModelDevice) (Named : Receipt → Type 0) (e : Entry) : Type 0 where
  pub place : ℕ
  pub within : place < length devices
  pub held : In e (holds (device_at devices place))
  pub unnamed : IsUnnamed Named (device_at devices place) e

-- nothing in the log supersedes the entry
abbrev pub IsCurrent : List Entry → Entry → Type 0
IsCurrent log e = (w : Entry) → In w log → Supersedes w e → ⊥

-- the devices are sound and keep what is current; copies and receipts are right; and each current entry is held by a device
-- that no receipt asks to give it up
pub record IsRight (log : List Entry) (devices : List ModelDevice) (IsCopy : ModelDevice → Type 0) (Named : Receipt → Type 0) : Type 0 where
  pub fleet : IsSoundFleet log devices
  pub copies : (c : ModelDevice) → IsCopy c → IsRightCopy log devices c
  pub receipts : (q : Receipt) → Named q → IsRightReceipt log devices q
  pub free : (e : Entry) → In e log → IsCurrent log e → IsFreelyHeld devices Named e
