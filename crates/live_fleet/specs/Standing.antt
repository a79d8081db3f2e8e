-- Which devices hold a picture, and which know of it.
use Rattle.std.specs.Prelude.{ℕ, Bool, true, false, ◌&&◌, ◌||◌, ◌==◌, List, map}
use Rattle.std.specs.List.{list_any}
use Rattle.photo_record.specs.declared.record.Record.{Record}
use Rattle.photo_record.specs.declared.record.Record.TheVariants.{Picture, Removed}
use Rattle.photo_version.specs.Author.{device_of_author}
use Rattle.item_knowledge.specs.Fragments.{knows}
use Rattle.photo_device.specs.declared.held.Held.{Held}
use Rattle.photo_device.specs.Device.{Kept}

-- the record describes a picture and doesn't remove it
abbrev pub is_picture : Record → Bool
is_picture (Picture rating day words) = true
is_picture Removed = false

-- one of the held versions is a version of the picture and doesn't remove it
abbrev pub has : ℕ → List Held → Bool
has picture helds = list_any (λ h. (h.picture == picture) && is_picture h.content) helds

-- the device holds the picture, in its store or in its out
abbrev pub holds : ℕ → Kept → Bool
holds picture d = has picture d.store || has picture d.out

-- The device knows one of the versions that were made of the picture; versions that remove it count. Knowing its own versions
-- of every picture isn't enough: one of this picture must have been made.
abbrev pub knows_of : List Held → ℕ → Kept → Bool
knows_of log picture d = list_any (λ h. (h.picture == picture) && knows d.knowledge picture h.version) log

-- the devices' numbers
abbrev pub numbers_of : List Kept → List ℕ
numbers_of devices = map (λ d. device_of_author d.author) devices
