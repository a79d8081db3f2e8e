-- Versions.
use Rattle.std.specs.Prelude.{ℕ, Bool, ◌&&◌, ◌||◌, ◌==◌, nat_lt}
use Rattle.photo_version.specs.Author.{Author, same_author, author_before}

-- the author's number-th version, from 1
pub record Version : Type 0 where
  pub author : Author
  pub number : ℕ

abbrev pub version : Author → ℕ → Version
version author number = record { author = author; number = number }

abbrev pub same_version : Version → Version → Bool
same_version v w = same_author v.author w.author && (v.number == w.number)

-- versions are ordered by author, then by number
abbrev pub version_before : Version → Version → Bool
version_before v w =
    author_before v.author w.author || (same_author v.author w.author && nat_lt v.number w.number)

-- a set of versions, given as a membership test
abbrev pub Versions : Type 0
Versions = Version → Bool
