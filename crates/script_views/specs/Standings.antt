-- How a device stands to a version of a picture.
use Rattle.std.specs.Prelude.{ℕ, if◌then◌else◌}
use Rattle.photo_version.specs.Version.{Version}
use Rattle.item_knowledge.specs.Fragments.{knows}
use Rattle.photo_device.specs.Device.{Kept}
use Rattle.photo_device.specs.Held.{has_version_of}
use Rattle.script_views.specs.declared.standing.Standing.{Standing}
use Rattle.script_views.specs.declared.standing.Standing.TheVariants.{Stored, Waiting, Known, Unknown}

-- held in the store, else in the out, else known, else unknown
abbrev pub standing_of : Kept → ℕ → Version → Standing
standing_of device picture version =
    if has_version_of picture version device.store then Stored
    else (if has_version_of picture version device.out then Waiting
    else (if knows device.knowledge picture version then Known else Unknown))
