-- Machinery of the proofs: which of a log's versions count, and which are superseded by one that counts.
use Rattle.std.specs.Prelude.{Bool, true, ◌&&◌, ◌==◌, List, Option, Some, None}
use Rattle.std.specs.List.{list_any}
use Rattle.photo_version.specs.Version.{Version}
use Rattle.photo_version.specs.Vector.{denotes}
use Rattle.item_knowledge.specs.Fragments.{knows}
use Rattle.photo_device.specs.declared.held.Held.{Held}
use Rattle.photo_device.specs.Device.{Kept}

-- the version counts: for a device, if the device knows it; without a device, always
abbrev pub counts : Option Kept → Held → Bool
counts None h = true
counts (Some d) h = knows d.knowledge h.picture h.version

-- some version that counts has this one in its history
abbrev pub is_passed : Option Kept → List Held → Version → Bool
is_passed viewer made v = list_any (λ w. counts viewer w && denotes w.made_with v) made

-- some version that counts supersedes this one
abbrev pub is_outdated : Option Kept → List Held → Held → Bool
is_outdated viewer log h = list_any (λ w. (w.picture == h.picture) && (counts viewer w && denotes w.made_with h.version)) log
