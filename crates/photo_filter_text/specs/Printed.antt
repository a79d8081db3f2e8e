-- How trees are printed: with a bracket around each `and` and `or`, and one space between tokens.
use Rattle.std.specs.Prelude.{ℕ, ◌+◌, ◌≤◌, ◌/◌, ◌%◌, List, [], ◌∷◌, ◌++◌, ℤ, codes}
use Rattle.std.specs.Str.{IsUtf8}
use Rattle.photo_record.specs.Limits.{max_rating, IsDay}
use Rattle.photo_record.specs.Word.{IsWord}
use Rattle.photo_record.specs.Calendar.{Civil, date_of}
use Rattle.photo_filter_text.specs.declared.tree.Cmp.{Cmp}
use Rattle.photo_filter_text.specs.declared.tree.Cmp.TheVariants.{AtLeast, AtMost, Equal}
use Rattle.photo_filter_text.specs.Tree.{Tree, All, Nothing, Rate, On, Keyword, Not, Both, Either}

abbrev pub cmp_text : Cmp → List ℕ
cmp_text AtLeast = codes ">="
cmp_text AtMost = codes "<="
cmp_text Equal = codes "="

-- the digit of a number below 10
abbrev pub digit : ℕ → ℕ
digit n = 48 + n

-- the two digits of a number below 100
abbrev pub two_digits : ℕ → List ℕ
two_digits n = digit (n / 10) ∷ digit (n % 10) ∷ []

-- the date as YYYY-MM-DD
abbrev pub civil_text : Civil → List ℕ
civil_text date = two_digits (date.year / 100) ++ (two_digits (date.year % 100) ++ 45 ∷ (two_digits date.month ++ 45 ∷ two_digits date.day))

unfoldable pub date_text : ℤ → List ℕ
date_text day = civil_text (date_of day)

-- two texts with a space between them
infixr 20 ◌␣◌
abbrev pub ◌␣◌ : List ℕ → List ℕ → List ℕ
text ␣ more = text ++ 32 ∷ more

-- the text of a tree
abbrev pub text_of : Tree → List ℕ
text_of All = codes "all"
text_of Nothing = codes "none"
text_of (Rate cmp rating) = codes "rating" ␣ cmp_text cmp ␣ digit rating ∷ []
text_of (On cmp day) = codes "day" ␣ cmp_text cmp ␣ date_text day
text_of (Keyword word) = codes "keyword" ␣ word
text_of (Not part) = codes "not" ␣ text_of part
text_of (Both left right) = codes "(" ␣ text_of left ␣ codes "and" ␣ text_of right ␣ codes ")"
text_of (Either left right) = codes "(" ␣ text_of left ␣ codes "or" ␣ text_of right ␣ codes ")"

-- all ratings, days and words in the tree are valid
abbrev pub IsSound : Tree → Type 0
IsSound All = Unit {0}
IsSound Nothing = Unit {0}
IsSound (Rate cmp rating) = rating ≤ max_rating
IsSound (On cmp day) = IsDay day
IsSound (Keyword word) = IsWord word × IsUtf8 word
IsSound (Not part) = IsSound part
IsSound (Both left right) = IsSound left × IsSound right
IsSound (Either left right) = IsSound left × IsSound right
