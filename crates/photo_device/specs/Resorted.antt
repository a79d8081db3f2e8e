-- Machinery of the proofs: sorting what a device holds again by another filter, and tables of what versions tell.
use Rattle.std.specs.Prelude.{◌≡◌, ℕ, ◌<◌, Bool, true, false, ◌&&◌, ◌||◌, ◌==◌, nat_le, nat_lt, List, [], ◌∷◌, ◌++◌, length, None}
use Rattle.std.specs.List.{AllByRecursion, list_all, list_any}
use Rattle.photo_filter_text.specs.Tree.{Tree}
use Rattle.photo_version.specs.Author.{Author}
use Rattle.photo_version.specs.Version.{Version, Versions}
use Rattle.photo_version.specs.Vector.{Bound, denotes}
use Rattle.item_knowledge.specs.Fragments.{knows}
use Rattle.item_knowledge.specs.Kept.{star_bound}
use Rattle.item_knowledge.specs.Tables.{in_order, keys_pass, at}
use Rattle.photo_device.specs.declared.resorted.Resorted.{Resorted}
use Rattle.photo_device.specs.declared.held.Held.{Held}
use Rattle.photo_device.specs.Held.{are_in_order}
use Rattle.photo_device.specs.Own.{HasEarlier}
use Rattle.photo_device.specs.Taking.{with_side}
use Rattle.photo_device.specs.Telling.{tells}

-- the versions of two sets are sorted by the tree; what is known is what they tell, of single pictures alone
pub record IsResorted (tree : Tree) (stored waiting : List Held) (resorted : Resorted) : Type 0 where
  pub store : resorted.store ≡ with_side true tree (stored ++ waiting) []
  pub out : resorted.out ≡ with_side false tree (stored ++ waiting) []
  pub pairs : (p : ℕ) (v : Version) → 0 < p → knows resorted.told.known p v ≡ (tells stored p v || tells waiting p v)
  pub star : (a : Author) → star_bound resorted.told.known a ≡ 0
  pub staged : resorted.told.staged ≡ None

-- the new table also has what is told of a picture; no picture of the old table is greater
pub record HasBesides (table new : List (ℕ × List Bound)) (picture : ℕ) (more : Versions) : Type 0 where
  pub order : in_order new ≡ true
  pub last : keys_pass (λ k. nat_le k picture) new ≡ true
  pub told : (p : ℕ) (v : Version) → denotes (at [] new p) v ≡ (denotes (at [] table p) v || ((picture == p) && more v))

-- what is left of two lists: each is in order, and each history has its author's earlier versions
pub record AreLeft (xs ys : List Held) : Type 0 where
  pub xs_order : are_in_order xs ≡ true
  pub ys_order : are_in_order ys ≡ true
  pub xs_earlier : AllByRecursion HasEarlier xs
  pub ys_earlier : AllByRecursion HasEarlier ys

-- the second list has the next version: its first picture is lesser, or the first list is empty
abbrev pub is_second_next : List Held → List Held → Bool
is_second_next xs [] = false
is_second_next [] (y ∷ ys) = true
is_second_next (x ∷ xs) (y ∷ ys) = nat_lt y.picture x.picture

-- the next version is one of all, and the others are left, of no lesser picture
pub record IsNextOf (h : Held) (all left : List Held) : Type 0 where
  pub earlier : HasEarlier h
  pub least : list_all (λ x. nat_le h.picture x.picture) left ≡ true
  pub rest : (f : Held → Bool) → list_any f all ≡ (f h || list_any f left)
  pub fewer : length left < length all
