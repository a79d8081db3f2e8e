-- If no device has anything staged, the copies equal the devices.
use Rattle.std.proofs.Common.{◌≡◌, List, [], ◌∷◌, map, refl, sym}
use Rattle.photo_device.specs.Device.{Kept, unstaged}
use Rattle.fleet_steps.specs.Between.{AreSettled}

pub settled_copied : (devices : List Kept) → AreSettled devices → map unstaged devices ≡ devices
settled_copied [] settled = refl
settled_copied (d ∷ ds) settled = λ i. record d { staged = sym settled.0 i } ∷ settled_copied ds settled.1 i
