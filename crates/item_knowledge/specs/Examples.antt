-- The definitions, worked for some fragments.
use Rattle.std.specs.Prelude.{◌≡◌, ℕ, Bool, true, false, List, [], ◌∷◌, Some, None}
use Rattle.photo_version.specs.Author.{author, author_at, author_word}
use Rattle.photo_version.specs.Version.{Version, version}
use Rattle.item_knowledge.specs.Entries.{Entry, joined}
use Rattle.item_knowledge.specs.Fragments.{Fragment, knows, is_normal, known}
use Rattle.item_knowledge.specs.Gathering.{IsAdded}
use Rattle.item_knowledge.specs.Excess.{exceeding, shown}
use Rattle.item_knowledge.specs.Raising.{are_level}
use Rattle.item_knowledge.specs.Rows.{flat, rows_of}
use Rattle.item_knowledge.specs.Staged.{IsStagedUnion}
use Rattle.item_knowledge.specs.BoundFilter.{place_of, is_marked}
use Rattle.item_knowledge.specs.Written.{IsBeyond}

abbrev of : List ℕ → List Entry → Fragment
of pictures entries = record { pictures = pictures; entries = entries }

-- a version of the device of that number
abbrev version_of : ℕ → ℕ → Version
version_of device number = version (author device) number

-- a bound of the device of that number
abbrev pub entry : ℕ → ℕ → Entry
entry device number = (author_word (author device), number)

-- a bound of that device in a later epoch
abbrev pub later : ℕ → ℕ → ℕ → Entry
later device epoch number = (author_word (author_at device epoch), number)

abbrev none : List Fragment
none = of [] [] ∷ []

-- for pictures 7 and 9 the first version of device 0
abbrev of_two : List Fragment
of_two = of [] [] ∷ of (7 ∷ 9 ∷ []) (entry 0 1 ∷ []) ∷ []

-- for every picture the first version of device 0
abbrev of_every : List Fragment
of_every = of [] (entry 0 1 ∷ []) ∷ []

pub record TheLibrary : Type 0 where
  pub nothing_yet : is_normal none ≡ true
  pub two : is_normal of_two ≡ true
  pub of_nine : known of_two 9 ≡ entry 0 1 ∷ []
  pub of_eight : known of_two 8 ≡ []
  pub knows_seven : knows of_two 7 (version_of 0 1) ≡ true
  pub not_eight : knows of_two 8 (version_of 0 1) ≡ false
  pub not_second : knows of_two 7 (version_of 0 2) ≡ false
  pub every : is_normal of_every ≡ true
  pub knows_eight : knows of_every 8 (version_of 0 1) ≡ true

-- what the normal form rules out, and what it allows
pub record TheNormalForms : Type 0 where
  pub no_star : is_normal [] ≡ false
  pub left_apart : is_normal (of [] [] ∷ of (7 ∷ []) (entry 0 1 ∷ []) ∷ of (9 ∷ []) (entry 0 1 ∷ []) ∷ []) ≡ false
  pub like_the_star : is_normal (of [] (entry 0 1 ∷ []) ∷ of (7 ∷ 9 ∷ []) (entry 0 1 ∷ []) ∷ []) ≡ false
  pub below_the_star : is_normal (of [] (entry 0 1 ∷ entry 1 1 ∷ []) ∷ of (7 ∷ []) (entry 0 2 ∷ []) ∷ []) ≡ false
  pub by_vector : is_normal (of [] [] ∷ of (9 ∷ []) (entry 0 1 ∷ []) ∷ of (7 ∷ []) (entry 0 2 ∷ []) ∷ []) ≡ false
  pub by_first_picture : is_normal (of [] [] ∷ of (7 ∷ 10 ∷ []) (entry 0 2 ∷ []) ∷ of (9 ∷ []) (entry 0 1 ∷ []) ∷ []) ≡ true
  pub twice : is_normal (of [] [] ∷ of (7 ∷ 9 ∷ []) (entry 0 2 ∷ []) ∷ of (9 ∷ []) (entry 0 1 ∷ []) ∷ []) ≡ false
  pub no_picture : is_normal (of [] [] ∷ of [] (entry 0 2 ∷ []) ∷ []) ≡ false
  pub no_bound : is_normal (of [] (entry 0 0 ∷ []) ∷ []) ≡ false
  pub unsorted : is_normal (of [] (entry 1 1 ∷ entry 0 1 ∷ []) ∷ []) ≡ false

pub record TheVectors : Type 0 where
  pub join : joined (entry 0 2 ∷ []) (entry 0 1 ∷ entry 1 3 ∷ []) ≡ entry 0 2 ∷ entry 1 3 ∷ []

-- a device's next epoch stands behind its first one, and denotes versions of its own
pub record TheEpochs : Type 0 where
  pub behind : is_normal (of [] (entry 0 2 ∷ later 0 1 1 ∷ entry 1 1 ∷ []) ∷ []) ≡ true
  pub turned_round : is_normal (of [] (later 0 1 1 ∷ entry 0 2 ∷ []) ∷ []) ≡ false
  pub its_first : knows (of [] (entry 0 2 ∷ later 0 1 1 ∷ []) ∷ []) 7 (version (author_at 0 1) 1) ≡ true
  pub not_its_second : knows (of [] (entry 0 2 ∷ later 0 1 1 ∷ []) ∷ []) 7 (version (author_at 0 1) 2) ≡ false

-- for picture 8 the first version of device 1
abbrev other : List Fragment
other = of [] [] ∷ of (8 ∷ []) (entry 1 1 ∷ []) ∷ []

-- for every picture the first version of device 0, and for picture 8 that of device 1 too
abbrev both : List Fragment
both = of [] (entry 0 1 ∷ []) ∷ of (8 ∷ []) (entry 0 1 ∷ entry 1 1 ∷ []) ∷ []

-- for picture 8 both versions, with an empty star
abbrev both_at_eight : List Fragment
both_at_eight = of [] [] ∷ of (8 ∷ []) (entry 0 1 ∷ entry 1 1 ∷ []) ∷ []

-- which fragments are the staged union of `of_every` and `other`, and, before a ⊥, which aren't
pub record TheStaged : Type 0 where
  pub union : IsStagedUnion (Some both) of_every other
  pub other_way : IsStagedUnion (Some both) other of_every
  pub normal : is_normal both ≡ true
  -- the union with nothing is what is known
  pub same : IsStagedUnion (Some of_every) of_every none
  -- where nothing is staged, no union is, even of nothing
  pub nothing : IsStagedUnion None none none → ⊥
  -- one of the two is staged alone
  pub first_alone : IsStagedUnion (Some of_every) of_every other → ⊥
  pub second_alone : IsStagedUnion (Some other) of_every other → ⊥
  -- what is known of picture 8 is staged for every picture
  pub of_all : IsStagedUnion (Some (of [] (entry 0 1 ∷ entry 1 1 ∷ []) ∷ [])) of_every other → ⊥
  -- a second version of device 0 is staged
  pub too_late : IsStagedUnion (Some (of [] (entry 0 2 ∷ []) ∷ of (8 ∷ []) (entry 0 2 ∷ entry 1 1 ∷ []) ∷ [])) of_every other → ⊥

-- what the union of a star alone and a row for picture 8 has beyond its star, and, before a ⊥, what it hasn't
pub record TheUnions : Type 0 where
  pub beyond : IsBeyond (entry 0 1 ∷ []) none [] both_at_eight ((8, 1) ∷ []) other ((8, 1) ∷ [])
  -- the row repeats what the star has
  pub repeated : IsBeyond (entry 0 1 ∷ []) none [] both_at_eight ((8, 1) ∷ []) both_at_eight ((8, 1) ∷ []) → ⊥
  pub left_out : IsBeyond (entry 0 1 ∷ []) none [] both_at_eight ((8, 1) ∷ []) none [] → ⊥

-- picture 7 in a group
abbrev seven : List Fragment
seven = of (7 ∷ []) (entry 0 1 ∷ []) ∷ []

-- how a picture comes to the groups of a union, and, before a ⊥, how it doesn't
pub record TheGroups : Type 0 where
  pub grown : IsAdded 9 (entry 0 1 ∷ []) seven (of (7 ∷ 9 ∷ []) (entry 0 1 ∷ []) ∷ []) 0
  pub begun : IsAdded 8 (entry 1 1 ∷ []) seven (of (7 ∷ []) (entry 0 1 ∷ []) ∷ of (8 ∷ []) (entry 1 1 ∷ []) ∷ []) 1
  -- the group has another vector
  pub other_vector : IsAdded 8 (entry 1 1 ∷ []) seven (of (7 ∷ 8 ∷ []) (entry 0 1 ∷ []) ∷ []) 0 → ⊥
  -- the picture that was there is gone
  pub lost : IsAdded 9 (entry 0 1 ∷ []) seven (of (9 ∷ []) (entry 0 1 ∷ []) ∷ []) 0 → ⊥

-- nine places for marks, of which that of the second version of device 0 has one
abbrev marks : List Bool
marks = false ∷ false ∷ true ∷ false ∷ false ∷ false ∷ false ∷ false ∷ false ∷ []

pub record TheMarks : Type 0 where
  pub place : place_of 9 (flat (entry 0 2 ∷ [])) ≡ 2
  pub by_the_last : place_of 9 (flat (entry 0 2 ∷ entry 1 3 ∷ [])) ≡ 8
  pub no_entry : place_of 9 [] ≡ 0
  pub marked : is_marked marks (flat (entry 0 2 ∷ [])) ≡ true
  pub unmarked : is_marked marks (flat (entry 0 1 ∷ [])) ≡ false
  -- another row may share its place
  pub shared : is_marked marks (flat (entry 1 2 ∷ [])) ≡ true

-- a star that stands once, and rows of what exceeds it
pub record TheExcess : Type 0 where
  pub level : are_level both (author_word (author 0)) 1 ≡ true
  pub not_level : are_level both (author_word (author 1)) 0 ≡ false
  pub exceeds : exceeding (entry 0 1 ∷ []) (entry 0 1 ∷ entry 1 1 ∷ []) ≡ entry 1 1 ∷ []
  pub all : exceeding [] (entry 0 1 ∷ entry 1 1 ∷ []) ≡ entry 0 1 ∷ entry 1 1 ∷ []
  pub is_shown : shown (flat (entry 0 1 ∷ [])) (rows_of other) ≡ rows_of both
  pub risen : shown (flat (entry 0 3 ∷ [])) (rows_of other) ≡ rows_of (of [] (entry 0 3 ∷ []) ∷ of (8 ∷ []) (entry 0 3 ∷ entry 1 1 ∷ []) ∷ [])
  pub no_star : shown [] (rows_of of_two) ≡ rows_of of_two
