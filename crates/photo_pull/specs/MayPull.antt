-- Between which devices a pull may be.
use Rattle.std.specs.Prelude.{◌≡◌, false, ◌++◌, Some}
use Rattle.photo_version.specs.Author.{same_device}
use Rattle.photo_version.specs.Version.{Version}
use Rattle.photo_device.specs.declared.held.Held.{Held}
use Rattle.photo_device.specs.Held.{find_version}
use Rattle.photo_device.specs.Device.{Kept}
use Rattle.photo_device.specs.Own.{KnowsNoMore}

-- the target may pull from the source: they are two devices, and a version that both hold is of one picture; the source
-- knows no version of the target's that the target hasn't made, nor any of a later epoch of the target's device
pub record MayPull (target source : Kept) : Type 0 where
  pub differ : same_device target.author source.author ≡ false
  pub one : (v : Version) (h g : Held) → find_version v (target.store ++ target.out) ≡ Some h → find_version v (source.store ++ source.out) ≡ Some g → h.picture ≡ g.picture
  pub own : KnowsNoMore target.author target.counter source.knowledge
