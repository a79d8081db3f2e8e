-- Machinery of the proofs: a cache of known versions. Each device has a row for each of its epochs. A row has at each version's
-- number the picture, or 0 where the version isn't cached.
use Rattle.std.specs.Prelude.{◌≡◌, ℕ, ◌/◌, ◌%◌, ◌<◌, ◌≤◌, true, List, length, get_or, Vec}
use Rattle.std.specs.declared.alloc.Global.{Global}
use Rattle.photo_version.specs.Author.{Author, author_at}
use Rattle.photo_version.specs.Version.{version}
use Rattle.item_knowledge.specs.Fragments.{Fragment, knows}

-- the author of a row: first the 256 devices in their first epoch, then these in their next one
abbrev pub author_of_row : ℕ → Author
author_of_row place = author_at (place % 256) (place / 256)

-- each version that is cached in an author's row is known
abbrev pub IsRow : List Fragment → ℕ → List ℕ → Type 0
IsRow known a row = (n : ℕ) → 0 < get_or row n 0 → knows known (get_or row n 0) (version (author_of_row a) n) ≡ true

-- each cached version is known
abbrev pub AreKnown : List Fragment → List (Vec ℕ Global) → Type 0
AreKnown known rows = (a : ℕ) (d : Vec ℕ Global) → a < length rows → IsRow known a (get_or rows a d).items

-- the cache is small: it has few rows, and each of them is short
pub record IsSmall (rows : List (Vec ℕ Global)) : Type 0 where
  pub few : length rows ≤ 8192
  pub short : (a : ℕ) (d : Vec ℕ Global) → a < length rows → length (get_or rows a d).items ≤ 1250030
