-- Machinery of the proofs: what a table tells of pictures, with vectors as `photo_version` has them.
use Rattle.std.specs.Prelude.{◌≡◌, ℕ, ◌<◌, true, nat_lt, List, [], ◌∷◌, map}
use Rattle.std.specs.List.{list_all}
use Rattle.photo_version.specs.Author.{author_word}
use Rattle.photo_version.specs.Vector.{Bound}
use Rattle.photo_version.specs.Version.{Version}
use Rattle.item_knowledge.specs.DistinctUnion.{numbered}
use Rattle.item_knowledge.specs.Entries.{Entry, denotes, is_vector}
use Rattle.item_knowledge.specs.Fragments.{Fragment, knows, entries_at}
use Rattle.item_knowledge.specs.Gathering.{star_first, vector_of, IsOperand}
use Rattle.item_knowledge.specs.Rows.{rows_of, fragments_of, AreRows}
use Rattle.item_knowledge.specs.Tables.{keys_pass}

-- the bounds with authors' words in place of authors
abbrev pub entries_of : List Bound → List Entry
entries_of bounds = map (λ b. (author_word b.0, b.1)) bounds

-- a fragment for each picture
abbrev pub told_one : ℕ × List Bound → Fragment
told_one t = record { pictures = t.0 ∷ []; entries = entries_of t.1 }

abbrev pub told : List (ℕ × List Bound) → List Fragment
told table = map (λ t. told_one t) table

-- the rows and the index are those of what the table tells
pub record IsTold (table : List (ℕ × List Bound)) (rows : List (List ℕ)) (numbers : List (ℕ × ℕ)) : Type 0 where
  pub rows_are : rows ≡ rows_of (star_first [] (told table))
  pub index_is : numbers ≡ numbered 1 (told table)
  pub positive : keys_pass (λ p. nat_lt 0 p) table ≡ true
  pub vectors : list_all (λ t. is_vector (entries_of t.1)) table ≡ true

-- rows and an index keep what is told: an operand with an empty star, whose index leads from each picture to what is told of it
pub record IsTelling (live : List (List ℕ)) (numbers : List (ℕ × ℕ)) : Type 0 where
  pub rows : AreRows live
  pub operand : IsOperand (fragments_of live) numbers
  pub star : entries_at (fragments_of live) 0 ≡ []
  pub pairs : (p : ℕ) (v : Version) → 0 < p → knows (fragments_of live) p v ≡ denotes (vector_of (fragments_of live) numbers p) v
