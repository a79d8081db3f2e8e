-- Machinery of the proofs: how a set takes versions.
use Rattle.std.specs.Prelude.{◌≡◌, ◌≤◌, ◌+◌, Bool, true, false, not, List, ◌++◌, length, filter}
use Rattle.block_list.specs.Reservation.{Reserved, Growing}
use Rattle.photo_filter_text.specs.Tree.{Tree}
use Rattle.photo_filter_rules.specs.Matching.{matches}
use Rattle.photo_version.specs.Version.{Version}
use Rattle.photo_device.specs.declared.held.Held.{Held}
use Rattle.photo_device.specs.Held.{are_in_order, count_of, put_helds}

-- the tree matches the held version, or doesn't, as the side says
abbrev pub is_on_side : Bool → Tree → Held → Bool
is_on_side true tree held = matches tree held.content
is_on_side false tree held = not (matches tree held.content)

-- both lists together have each version once
pub record AreNewTo (helds takes : List Held) : Type 0 where
  pub once : (v : Version) → count_of v (takes ++ helds) ≤ 1

-- a list in order has the room to take those versions
pub record HasRoomFor (coming : List Held) (list : Growing Held) : Type 0 where
  pub order : are_in_order list.items ≡ true
  pub new : AreNewTo list.items coming
  pub room : length coming ≤ list.more

-- a set may take two lists of versions in that room
pub record MayTake (helds handed takes : List Held) (room : Reserved) : Type 0 where
  pub new : AreNewTo helds (handed ++ takes)
  pub most : length helds ≤ room.most
  pub more : length takes + length handed ≤ room.more

-- a set with those versions of a list that pass the test
abbrev pub with_those : (Held → Bool) → List Held → List Held → List Held
with_those passes takes helds = put_helds (filter passes takes) helds

-- a set with those versions of a list that belong to one side
abbrev pub with_side : Bool → Tree → List Held → List Held → List Held
with_side matched tree takes helds = with_those (is_on_side matched tree) takes helds

-- the list has taken the versions that pass; its room shrank by at most the number that came
pub record HasTaken (passes : Held → Bool) (coming : List Held) (old new : Growing Held) : Type 0 where
  pub order : are_in_order new.items ≡ true
  pub items : new.items ≡ with_those passes coming old.items
  pub more : old.more ≤ new.more + length coming
