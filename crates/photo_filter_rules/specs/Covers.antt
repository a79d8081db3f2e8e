-- Covering: by their alternatives, one filter selects whatever another selects. It may do so without covering the other.
use Rattle.std.specs.Prelude.{Bool, ◌&&◌, int_le, List}
use Rattle.std.specs.List.{list_any, list_all}
use Rattle.photo_record.specs.Word.{has_word}
use Rattle.photo_filter_text.specs.Tree.{Tree}
use Rattle.photo_filter_rules.specs.declared.span.Span.{Span}
use Rattle.photo_filter_rules.specs.declared.polarity.Polarity.TheVariants.{Plain}
use Rattle.photo_filter_rules.specs.Alternatives.{Alternative, alternatives_of}

-- the first range has all numbers of the second
abbrev pub contains : Span → Span → Bool
contains s t = int_le s.first t.first && int_le t.last s.last

-- the first alternative asks nothing that the second doesn't ask
abbrev pub asks_no_more : Alternative → Alternative → Bool
asks_no_more a b =
    (contains a.ratings b.ratings && contains a.days b.days)
    && (list_all (has_word b.required) a.required && list_all (has_word b.forbidden) a.forbidden)

-- some alternative of the list asks no more than this one
abbrev pub has_room_for : List Alternative → Alternative → Bool
has_room_for alternatives b = list_any (λ a. asks_no_more a b) alternatives

-- the first tree covers the second: for each alternative of the second, the first has one that asks no more
abbrev pub covers : Tree → Tree → Bool
covers f g = list_all (has_room_for (alternatives_of f Plain)) (alternatives_of g Plain)
