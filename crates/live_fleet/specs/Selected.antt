-- Which of the versions that a device holds a filter selects.
use Rattle.std.specs.Prelude.{List, ◌++◌, filter}
use Rattle.std.specs.List.Sorted.{IsPermutation, IsSortedBy}
use Rattle.photo_filter_text.specs.Tree.{Tree}
use Rattle.photo_filter_rules.specs.Matching.{matches}
use Rattle.photo_device.specs.declared.held.Held.{Held}
use Rattle.photo_device.specs.Held.{held_before}
use Rattle.photo_device.specs.Device.{Kept}

-- the versions whose records the tree matches
abbrev pub matched : Tree → List Held → List Held
matched tree helds = filter (λ h. matches tree h.content) helds

-- exactly the versions of the device's store and out whose records the tree matches, each as often as it is there, sorted by
-- picture and then version
pub record AreSelected (tree : Tree) (d : Kept) (found : List Held) : Type 0 where
  pub same : IsPermutation (matched tree (d.store ++ d.out)) found
  pub ordered : IsSortedBy held_before found
