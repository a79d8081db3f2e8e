-- What a knowledge keeps: rows of a normal form, and their index.
use Rattle.std.specs.Prelude.{◌≡◌, ℕ, ◌<◌, Bool, true, ◌&&◌, List, [], ◌∷◌}
use Rattle.std.specs.List.{list_all}
use Rattle.photo_version.specs.Author.{Author, author_word}
use Rattle.photo_version.specs.Version.{Version}
use Rattle.item_knowledge.specs.Entries.{bound, denotes, leq}
use Rattle.item_knowledge.specs.Fragments.{Fragment, knows, is_normal, nothing, entries_at}
use Rattle.item_knowledge.specs.Rows.{AreRows, fragments_of}
use Rattle.item_knowledge.specs.Gathering.{IsIndex, vector_of}

pub record IsKept (live : List (List ℕ)) (numbers : List (ℕ × ℕ)) : Type 0 where
  pub rows : AreRows live
  pub normal : is_normal (fragments_of live) ≡ true
  pub index : IsIndex numbers (fragments_of live)

-- nothing is known: the star alone, without entries
abbrev pub nothing_known : List Fragment
nothing_known = nothing ∷ []

-- the number up to which an author's versions are known of every picture
abbrev pub star_bound : List Fragment → Author → ℕ
star_bound fs a = bound (entries_at fs 0) (author_word a)

-- each vector of the first operand is at most the second's vector of the same picture
abbrev pub is_operand_within : List Fragment → List (ℕ × ℕ) → List Fragment → List (ℕ × ℕ) → Bool
is_operand_within fs xs gs ys =
    leq (entries_at fs 0) (entries_at gs 0) && list_all (λ r. leq (entries_at fs r.1) (vector_of gs ys r.0)) xs

-- each pair that an operand denotes is known
abbrev pub IsOperandKnown : List Fragment → List Fragment → List (ℕ × ℕ) → Type 0
IsOperandKnown now gs ys = (p : ℕ) (v : Version) → 0 < p → denotes (vector_of gs ys p) v ≡ true → knows now p v ≡ true
