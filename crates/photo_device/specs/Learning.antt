-- Machinery of the proofs: a device holds its author's next version, and knows it of every picture.
use Rattle.std.specs.Prelude.{◌≡◌, ℕ, ◌+◌, ◌<◌, ◌≤◌, ◌||◌, true, if◌then◌else◌, List, None}
use Rattle.photo_version.specs.Author.{Author, same_author}
use Rattle.photo_version.specs.Version.{Version, version, same_version}
use Rattle.item_knowledge.specs.Fragments.{Fragment, knows}
use Rattle.item_knowledge.specs.Kept.{star_bound}
use Rattle.item_knowledge.specs.Staged.{Knowing}
use Rattle.photo_device.specs.declared.held.Held.{Held}
use Rattle.photo_model.specs.declared.place.Place.{Place}
use Rattle.photo_device.specs.Device.{store_with, out_with}

-- the version is its author's next one, and no later version of the author is known
pub record IsNextKnown (v : Version) (known : List Fragment) : Type 0 where
  pub next : v.number ≡ star_bound known v.author + 1
  pub level : (p n : ℕ) → 0 < p → knows known p (version v.author n) ≡ true → n ≤ star_bound known v.author

pub record IsOwnLearned (v : Version) (old new : List Fragment) : Type 0 where
  pub star : (a : Author) → star_bound new a ≡ (if same_author v.author a then v.number else star_bound old a)
  pub learned : (p : ℕ) (w : Version) → 0 < p → knows new p w ≡ (knows old p w || same_version v w)

pub record IsHeldNext (place : Place) (h : Held) (store_old store_new out_old out_new : List Held) (old new : Knowing) : Type 0 where
  pub store : store_new ≡ store_with place h store_old
  pub out : out_new ≡ out_with place h out_old
  pub learned : IsOwnLearned h.version old.known new.known
  pub staged : new.staged ≡ None
