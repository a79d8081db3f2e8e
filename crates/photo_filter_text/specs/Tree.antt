-- Filters as trees, without their places in memory.
use Rattle.std.specs.Prelude.{ℕ, ◌+◌, max, ℤ, List}
use Rattle.photo_filter_text.specs.declared.tree.Cmp.{Cmp}
use Rattle.photo_filter_text.specs.declared.tree.FilterTree.{FilterTree}
use Rattle.photo_filter_text.specs.declared.tree.FilterTree.TheVariants as variants

pub data Tree : Type 0 where
  All : Tree
  Nothing : Tree
  Rate : (cmp : Cmp) → (rating : ℕ) → Tree
  On : (cmp : Cmp) → (day : ℤ) → Tree
  Keyword : (word : List ℕ) → Tree
  Not : (part : Tree) → Tree
  Both : (left right : Tree) → Tree
  Either : (left right : Tree) → Tree

-- the tree that a value of the code stands for
abbrev pub tree_of : FilterTree → Tree
tree_of variants.All = All
tree_of variants.Nothing = Nothing
tree_of (variants.Rate cmp rating) = Rate cmp rating
tree_of (variants.On cmp day) = On cmp day
tree_of (variants.Keyword word) = Keyword word
tree_of (variants.Not' p part) = Not (tree_of part)
tree_of (variants.Both' p left q right) = Both (tree_of left) (tree_of right)
tree_of (variants.Either' p left q right) = Either (tree_of left) (tree_of right)

-- the height of a tree; a single test has height 1
abbrev pub height : Tree → ℕ
height (Not part) = height part + 1
height (Both left right) = max (height left) (height right) + 1
height (Either left right) = max (height left) (height right) + 1
height All = 1
height Nothing = 1
height (Rate cmp rating) = 1
height (On cmp day) = 1
height (Keyword word) = 1
