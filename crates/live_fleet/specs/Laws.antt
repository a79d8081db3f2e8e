-- What holds of the questions for every fleet.
use Rattle.std.specs.Prelude.{◌≡◌, ℕ, ◌<◌, true, Some, slice_get}
use Rattle.photo_version.specs.Author.{device_of_author}
use Rattle.photo_device.specs.Device.{Kept}
use Rattle.live_fleet.specs.Fleets.{KeptFleet}
use Rattle.live_fleet.specs.Standing.{holds, knows_of}

-- the device at each place has that place as its number
abbrev pub HasNumbers : KeptFleet → Type 0
HasNumbers f = (k : ℕ) (d : Kept) → slice_get f.devices k ≡ Some d → device_of_author d.author ≡ k

-- each device that holds a picture knows of it
abbrev pub HoldersKnow : KeptFleet → Type 0
HoldersKnow f = (picture k : ℕ) (d : Kept) → 0 < picture → slice_get f.devices k ≡ Some d → holds picture d ≡ true → knows_of f.log picture d ≡ true
