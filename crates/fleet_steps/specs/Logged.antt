-- Machinery of the proofs: an index of the log, sorted by picture.
use Rattle.std.specs.Prelude.{◌<◌, List}
use Rattle.std.specs.List.{All}
use Rattle.std.specs.List.Sorted.{IsPermutation, IsSortedBy, IsNonDecreasingBy}
use Rattle.photo_device.specs.declared.held.Held.{Held}
use Rattle.photo_device.specs.Held.{held_before}

-- all picture numbers are above 0
abbrev pub AreAbove : List Held → Type 0
AreAbove helds = All (λ h. 0 < h.picture) helds

-- the index has the versions of the log, sorted by picture and then version
pub record IsIndex (issued index : List Held) : Type 0 where
  pub same : IsPermutation issued index
  pub ordered : IsSortedBy held_before index
  pub rising : IsNonDecreasingBy (λ h. h.picture) index
  pub above : AreAbove issued
