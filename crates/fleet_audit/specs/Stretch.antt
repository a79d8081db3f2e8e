-- Machinery of the proofs: versions of one picture by one author, in rising order.
use Rattle.std.specs.Prelude.{◌≡◌, ◌<◌, ◌≤◌, List, length}
use Rattle.std.specs.List.{AllAdjacentBelow}
use Rattle.photo_device.specs.declared.held.Held.{Held}

pub record Follows (h next : Held) : Type 0 where
  pub picture : h.picture ≡ next.picture
  pub author : h.version.author ≡ next.version.author
  pub above : 0 < h.version.number
  pub rises : h.version.number ≤ next.version.number

abbrev pub IsStretch : List Held → Type 0
IsStretch helds = AllAdjacentBelow Follows helds (length helds)
