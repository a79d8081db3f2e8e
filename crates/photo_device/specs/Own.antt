-- What a device knows of its own versions, and which earlier versions of its author a held version's history has: exactly those
-- that exist. So one bound an author stands for a plain set of versions. A device knows what it holds, and holds it once.
use Rattle.std.specs.Prelude.{◌≡◌, ℕ, ◌+◌, ◌<◌, ◌≤◌, true, false, ◌&&◌, ◌||◌, nat_le, nat_lt, List, ◌++◌, None}
use Rattle.std.specs.List.{AllByRecursion}
use Rattle.photo_version.specs.Author.{Author, is_earlier_epoch}
use Rattle.photo_version.specs.Version.{Version, version, same_version}
use Rattle.photo_version.specs.Vector.{denotes}
use Rattle.item_knowledge.specs.Fragments.{Fragment, knows}
use Rattle.item_knowledge.specs.Kept.{star_bound}
use Rattle.photo_device.specs.declared.held.Held.{Held}
use Rattle.photo_model.specs.declared.place.Place.{Place}
use Rattle.photo_device.specs.Held.{count_of}
use Rattle.photo_device.specs.Device.{Kept, held_at}

-- of the held version's own author, its history has exactly the earlier versions
pub record HasEarlier (held : Held) : Type 0 where
  pub own : (n : ℕ) → denotes held.made_with (version held.version.author n) ≡ (nat_le 1 n && nat_lt n held.version.number)

-- no version of a later epoch of the author's device is known
abbrev pub KnowsNoLater : Author → List Fragment → Type 0
KnowsNoLater author knowledge = (picture : ℕ) (v : Version) → 0 < picture → is_earlier_epoch author v.author ≡ true → knows knowledge picture v ≡ false

-- no version of the author above the counter is known, and none of a later epoch of its device
pub record KnowsNoMore (author : Author) (counter : ℕ) (knowledge : List Fragment) : Type 0 where
  pub own : (picture n : ℕ) → 0 < picture → knows knowledge picture (version author n) ≡ true → n ≤ counter
  pub later : KnowsNoLater author knowledge

-- of the author, exactly the versions from 1 to the counter are known, of every picture; none of a later epoch of its device is
-- known
pub record KnowsItsOwn (author : Author) (counter : ℕ) (knowledge : List Fragment) : Type 0 where
  pub star : star_bound knowledge author ≡ counter
  pub own : (picture n : ℕ) → 0 < picture → knows knowledge picture (version author n) ≡ (nat_le 1 n && nat_le n counter)
  pub later : KnowsNoLater author knowledge

-- a held version and its history are known of its picture
pub record IsKnownBy (knowledge : List Fragment) (held : Held) : Type 0 where
  pub above : 0 < held.picture
  pub itself : knows knowledge held.picture held.version ≡ true
  pub history : (v : Version) → denotes held.made_with v ≡ true → knows knowledge held.picture v ≡ true

-- the device's next version of a picture; its history is what the device knows of the picture
pub record IsNext (held : Held) (d : Kept) : Type 0 where
  pub next : held.version ≡ version d.author (d.counter + 1)
  pub above : 0 < held.picture
  pub history : (v : Version) → denotes held.made_with v ≡ knows d.knowledge held.picture v

-- the device holds its next version at a place, has counted it, and knows it of every picture; nothing is staged
pub record HasMade (place : Place) (h : Held) (old new : Kept) : Type 0 where
  pub next : IsNext h old
  pub rest : new ≡ record (held_at place h old) { counter = old.counter + 1; knowledge = new.knowledge; staged = None }
  pub learned : (picture : ℕ) (v : Version) → 0 < picture → knows new.knowledge picture v ≡ (knows old.knowledge picture v || same_version h.version v)

-- the invariant of each device
pub record IsDevice (d : Kept) : Type 0 where
  pub knows : KnowsItsOwn d.author d.counter d.knowledge
  pub store : AllByRecursion HasEarlier d.store
  pub out : AllByRecursion HasEarlier d.out
  pub store_known : AllByRecursion (IsKnownBy d.knowledge) d.store
  pub out_known : AllByRecursion (IsKnownBy d.knowledge) d.out
  -- no version is held twice
  pub once : (v : Version) → count_of v (d.store ++ d.out) ≤ 1
