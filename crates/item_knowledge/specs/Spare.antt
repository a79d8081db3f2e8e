-- Machinery of the proofs: the rows that a knowledge keeps, live ones for what is known and spare ones for what is staged.
use Rattle.std.specs.Prelude.{◌≡◌, ℕ, ◌<◌, ◌||◌, max, if◌then◌else◌, List, Option, None, Some}
use Rattle.photo_version.specs.Author.{Author, same_author}
use Rattle.photo_version.specs.Version.{Version, same_version}
use Rattle.item_knowledge.specs.declared.knowledge.Staged.{Staged}
use Rattle.item_knowledge.specs.declared.knowledge.Staged.TheVariants.{Nothing, AllKnown, Spare}
use Rattle.item_knowledge.specs.Entries.{denotes}
use Rattle.item_knowledge.specs.Fragments.{Fragment, knows}
use Rattle.item_knowledge.specs.Gathering.{vector_of}
use Rattle.item_knowledge.specs.Kept.{IsKept, star_bound}
use Rattle.item_knowledge.specs.Rows.{fragments_of}

-- the fragments of what is staged, in the live rows or in the spare ones
abbrev pub staged_of : Staged → List (List ℕ) → List (List ℕ) → Option (List Fragment)
staged_of Nothing live spare = None
staged_of AllKnown live spare = Some (fragments_of live)
staged_of (Spare index) live spare = Some (fragments_of spare)

-- the spare rows are kept with their index, if they are staged
abbrev pub IsSpareKept : Staged → List (List ℕ) → Type 0
IsSpareKept Nothing spare = Unit {0}
IsSpareKept AllKnown spare = Unit {0}
IsSpareKept (Spare index) spare = IsKept spare index.items

pub record IsWhole (live : List (List ℕ)) (numbers : List (ℕ × ℕ)) (staged : Staged) (spare : List (List ℕ)) : Type 0 where
  pub kept : IsKept live numbers
  pub spare_kept : IsSpareKept staged spare

-- what is known after what an operand denotes was learned
pub record IsJoined (known gs : List Fragment) (ys : List (ℕ × ℕ)) (new : List Fragment) : Type 0 where
  pub star : (a : Author) → star_bound new a ≡ max (star_bound known a) (star_bound gs a)
  pub pairs : (p : ℕ) (v : Version) → 0 < p → knows new p v ≡ (knows known p v || denotes (vector_of gs ys p) v)

-- what is known after an author's next version was learned
pub record HasNext (version : Version) (known new : List Fragment) : Type 0 where
  pub star : (a : Author) → star_bound new a ≡ (if same_author version.author a then version.number else star_bound known a)
  pub learned : (p : ℕ) (v : Version) → 0 < p → knows new p v ≡ (knows known p v || same_version version v)
