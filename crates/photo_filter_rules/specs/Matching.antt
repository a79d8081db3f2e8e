-- Which records a tree matches.
use Rattle.std.specs.Prelude.{◌≤◌, ℕ, ℤ, Bool, true, false, not, ◌&&◌, ◌||◌, pos, int_le, List}
use Rattle.std.specs.Ordering.{int_eq}
use Rattle.photo_record.specs.Limits.{max_rating, IsDay}
use Rattle.photo_record.specs.Word.{has_word}
use Rattle.photo_record.specs.declared.record.Record.{Record}
use Rattle.photo_record.specs.declared.record.Record.TheVariants.{Picture, Removed}
use Rattle.photo_filter_text.specs.declared.tree.Cmp.{Cmp}
use Rattle.photo_filter_text.specs.declared.tree.Cmp.TheVariants.{AtLeast, AtMost, Equal}
use Rattle.photo_filter_text.specs.Tree.{Tree, All, Nothing, Rate, On, Keyword, Not, Both, Either}

-- the content of a picture's record: a rating, a day number and a set of words
pub record Content : Type 0 where
  pub rating : ℕ
  pub day : ℤ
  pub words : List (List ℕ)

abbrev pub content : ℕ → ℤ → List (List ℕ) → Content
content rating day words = record { rating = rating; day = day; words = words }

-- the rating and the day are in range
pub record IsContent (c : Content) : Type 0 where
  pub rating : c.rating ≤ max_rating
  pub day : IsDay c.day

-- the record's rating and day are in range, if it has them
abbrev pub IsInRange : Record → Type 0
IsInRange (Picture rating day words) = IsContent (content rating day words)
IsInRange Removed = Unit {0}

-- the number compares with the test's as the test asks
abbrev pub compares : Cmp → ℤ → ℤ → Bool
compares AtLeast named number = int_le named number
compares AtMost named number = int_le number named
compares Equal named number = int_eq number named

-- the tree matches the picture
abbrev pub matches_picture : Tree → Content → Bool
matches_picture All c = true
matches_picture Nothing c = false
matches_picture (Rate cmp rating) c = compares cmp (pos rating) (pos c.rating)
matches_picture (On cmp day) c = compares cmp day c.day
matches_picture (Keyword word) c = has_word c.words word
matches_picture (Not part) c = not (matches_picture part c)
matches_picture (Both left right) c = matches_picture left c && matches_picture right c
matches_picture (Either left right) c = matches_picture left c || matches_picture right c

-- the tree matches the record; no tree matches a removal
abbrev pub matches : Tree → Record → Bool
matches tree (Picture rating day words) = matches_picture tree (content rating day words)
matches tree Removed = false
