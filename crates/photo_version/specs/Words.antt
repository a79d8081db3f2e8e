-- Machinery of the proofs: the device and the epoch of an author's word.
use Rattle.std.proofs.Common.{◌≡◌, ℕ, ◌+◌, ◌*◌, ◌/◌, ◌%◌, ◌<◌, arith}

pub device_back : (device epoch : ℕ) → epoch < 4294967296 → (device * 4294967296 + epoch) / 4294967296 ≡ device
device_back device epoch h = omega arith

pub epoch_back : (device epoch : ℕ) → epoch < 4294967296 → (device * 4294967296 + epoch) % 4294967296 ≡ epoch
epoch_back device epoch h = omega arith
