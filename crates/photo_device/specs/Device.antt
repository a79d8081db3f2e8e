-- What contracts see of a device of the program, and the model device that it shows.
use Rattle.std.specs.Prelude.{◌≡◌, ℕ, ◌<◌, List, Option, None}
use Rattle.photo_filter_text.specs.Tree.{Tree}
use Rattle.photo_model.specs.declared.place.Place.{Place}
use Rattle.photo_model.specs.declared.place.Place.TheVariants.{Store, Out}
use Rattle.photo_device.specs.declared.held.Held.{Held}
use Rattle.photo_version.specs.Author.{Author}
use Rattle.photo_version.specs.Version.{Version}
use Rattle.item_knowledge.specs.Fragments.{Fragment, knows}
use Rattle.photo_model.specs.Device.{ModelDevice, known}
use Rattle.photo_device.specs.Held.{entries_of, held_of_others, replaced}

-- a staged change: the versions to drop and to take, what will be known, and how many handed versions there is room for
pub record Staging : Type 0 where
  pub drops : List Version
  pub takes : List Held
  pub knowledge : List Fragment
  pub room : ℕ

-- what contracts see of a device of the program, with the staged change, if there is one
pub record Kept : Type 0 where
  pub author : Author
  pub tree : Tree
  pub counter : ℕ
  pub store : List Held
  pub out : List Held
  pub knowledge : List Fragment
  pub staged : Option Staging

-- the device with nothing staged
abbrev pub unstaged : Kept → Kept
unstaged d = record d { staged = None }

-- a device is as it was, but for what is staged
abbrev pub IsAsItWas : Kept → Kept → Type 0
IsAsItWas old new = unstaged new ≡ unstaged old

-- the store and the out when a version is held at a place, and nothing else of its picture

abbrev pub store_with : Place → Held → List Held → List Held
store_with Store held store = replaced held store
store_with Out held store = held_of_others held.picture store

abbrev pub out_with : Place → Held → List Held → List Held
out_with Store held out = held_of_others held.picture out
out_with Out held out = replaced held out

abbrev pub held_at : Place → Held → Kept → Kept
held_at place held d = record d { store = store_with place held d.store; out = out_with place held d.out }

-- the device shows the model device; of its knowledge, only what it knows of each picture counts
pub record Shows (d : Kept) (m : ModelDevice) : Type 0 where
  pub author : d.author ≡ m.author
  pub tree : d.tree ≡ m.tree
  pub counter : d.counter ≡ m.counter
  pub store : entries_of d.store ≡ m.store
  pub out : entries_of d.out ≡ m.out
  pub known : (picture : ℕ) → 0 < picture → (v : Version) → knows d.knowledge picture v ≡ known m picture v
