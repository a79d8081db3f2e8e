-- The alternatives of a tree: a picture matches the tree if it fits one of them.
use Rattle.std.specs.Prelude.{ℕ, ℤ, Bool, not, ◌&&◌, ◌||◌, pos, ◌+ℤ◌, ◌-ℤ◌, int_le, nat_lt, List, [], ◌∷◌, ◌++◌, map, length}
use Rattle.std.specs.Int.{int_max, int_min}
use Rattle.std.specs.List.{list_any, list_all, filter, flat_map}
use Rattle.photo_record.specs.Word.{has_word}
use Rattle.photo_filter_text.specs.declared.tree.Cmp.{Cmp}
use Rattle.photo_filter_text.specs.declared.tree.Cmp.TheVariants.{AtLeast, AtMost, Equal}
use Rattle.photo_filter_text.specs.Tree.{Tree, All, Nothing, Rate, On, Keyword, Not, Both, Either}
use Rattle.photo_filter_rules.specs.declared.span.Span.{Span}
use Rattle.photo_filter_rules.specs.declared.polarity.Polarity.{Polarity}
use Rattle.photo_filter_rules.specs.declared.polarity.Polarity.TheVariants.{Plain, Negated}
use Rattle.photo_filter_rules.specs.Limits.{all_ratings, all_days, max_alternatives}
use Rattle.photo_filter_rules.specs.Matching.{Content}

-- the numbers from the first to the last, both included; none if the last is below the first
abbrev pub span : ℤ → ℤ → Span
span first last = record { first = first; last = last }

abbrev pub is_within : Span → ℤ → Bool
is_within s number = int_le s.first number && int_le number s.last

-- the numbers in both ranges
abbrev pub both_spans : Span → Span → Span
both_spans s t = span (int_max s.first t.first) (int_min s.last t.last)

-- A set of words is a list. A union has the words of the first list, then the new words of the second.
abbrev pub both_sets : List (List ℕ) → List (List ℕ) → List (List ℕ)
both_sets ws vs = ws ++ filter (λ v. not (has_word ws v)) vs

-- an alternative: a range of ratings, a range of days, required words and forbidden words
pub record Alternative : Type 0 where
  pub ratings : Span
  pub days : Span
  pub required : List (List ℕ)
  pub forbidden : List (List ℕ)

-- the picture fits the alternative
abbrev pub fits : Content → Alternative → Bool
fits c a =
    (is_within a.ratings (pos c.rating) && is_within a.days c.day)
    && (list_all (has_word c.words) a.required && not (list_any (has_word c.words) a.forbidden))

-- both ranges have numbers, and no word is both required and forbidden
abbrev pub is_possible : Alternative → Bool
is_possible a =
    (int_le a.ratings.first a.ratings.last && int_le a.days.first a.days.last)
    && not (list_any (has_word a.forbidden) a.required)

-- the alternative that asks for what both ask
abbrev pub both_of : Alternative → Alternative → Alternative
both_of a b = record {
  ratings = both_spans a.ratings b.ratings;
  days = both_spans a.days b.days;
  required = both_sets a.required b.required;
  forbidden = both_sets a.forbidden b.forbidden;
}

-- the possible ones among the alternatives
abbrev pub possible : List Alternative → List Alternative
possible = filter is_possible

-- the alternative that asks nothing, and those that ask a single thing
abbrev pub anything : Alternative
anything = record { ratings = all_ratings; days = all_days; required = []; forbidden = [] }

abbrev pub with_ratings : Span → Alternative
with_ratings s = record anything { ratings = s }

abbrev pub with_days : Span → Alternative
with_days s = record anything { days = s }

abbrev pub with_keyword : Polarity → List ℕ → Alternative
with_keyword Plain word = record anything { required = word ∷ [] }
with_keyword Negated word = record anything { forbidden = word ∷ [] }

abbrev pub opposite : Polarity → Polarity
opposite Plain = Negated
opposite Negated = Plain

-- the ranges, within the whole, of the numbers that pass the test, or under `not` of those that don't
abbrev pub spans_of : Span → Polarity → Cmp → ℤ → List Span
spans_of whole Plain AtLeast named = span named whole.last ∷ []
spans_of whole Plain AtMost named = span whole.first named ∷ []
spans_of whole Plain Equal named = span named named ∷ []
spans_of whole Negated AtLeast named = span whole.first (named -ℤ pos 1) ∷ []
spans_of whole Negated AtMost named = span (named +ℤ pos 1) whole.last ∷ []
spans_of whole Negated Equal named = span whole.first (named -ℤ pos 1) ∷ span (named +ℤ pos 1) whole.last ∷ []

abbrev pub all_or_none : Polarity → List Alternative
all_or_none Plain = anything ∷ []
all_or_none Negated = []

-- all possible pairs of an alternative from each list; the first list's order comes first
abbrev pub pairs : List Alternative → List Alternative → List Alternative
pairs xs ys = flat_map (λ a. possible (map (both_of a) ys)) xs

-- `or` appends the lists, and under `not` it pairs them
abbrev pub either_list : Polarity → List Alternative → List Alternative → List Alternative
either_list Plain xs ys = xs ++ ys
either_list Negated xs ys = pairs xs ys

-- the alternatives of a tree in a polarity: plain, or under `not`
abbrev pub alternatives_of : Tree → Polarity → List Alternative
alternatives_of All polarity = all_or_none polarity
alternatives_of Nothing polarity = all_or_none (opposite polarity)
alternatives_of (Rate cmp rating) polarity = possible (map with_ratings (spans_of all_ratings polarity cmp (pos rating)))
alternatives_of (On cmp day) polarity = possible (map with_days (spans_of all_days polarity cmp day))
alternatives_of (Keyword word) polarity = with_keyword polarity word ∷ []
alternatives_of (Not part) polarity = alternatives_of part (opposite polarity)
alternatives_of (Both left right) polarity =
    either_list (opposite polarity) (alternatives_of left polarity) (alternatives_of right polarity)
alternatives_of (Either left right) polarity =
    either_list polarity (alternatives_of left polarity) (alternatives_of right polarity)

abbrev pub is_long : List Alternative → Bool
is_long xs = nat_lt max_alternatives (length xs)

-- the tree, or a part of it in its own polarity, has over 64 alternatives
abbrev pub is_too_wide : Tree → Polarity → Bool
is_too_wide All polarity = is_long (alternatives_of All polarity)
is_too_wide Nothing polarity = is_long (alternatives_of Nothing polarity)
is_too_wide (Rate cmp rating) polarity = is_long (alternatives_of (Rate cmp rating) polarity)
is_too_wide (On cmp day) polarity = is_long (alternatives_of (On cmp day) polarity)
is_too_wide (Keyword word) polarity = is_long (alternatives_of (Keyword word) polarity)
is_too_wide (Not part) polarity = is_long (alternatives_of (Not part) polarity) || is_too_wide part (opposite polarity)
is_too_wide (Both left right) polarity =
    is_long (alternatives_of (Both left right) polarity) || (is_too_wide left polarity || is_too_wide right polarity)
is_too_wide (Either left right) polarity =
    is_long (alternatives_of (Either left right) polarity) || (is_too_wide left polarity || is_too_wide right polarity)
