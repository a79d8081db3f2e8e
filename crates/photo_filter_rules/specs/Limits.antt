-- All ratings, all days, and the most alternatives of a filter.
use Rattle.std.specs.Prelude.{ℕ, pos}
use Rattle.photo_record.specs.Limits.{max_rating, first_day, last_day}
use Rattle.photo_filter_rules.specs.declared.span.Span.{Span}

abbrev pub all_ratings : Span
all_ratings = record { first = pos 0; last = pos max_rating }

abbrev pub all_days : Span
all_days = record { first = first_day; last = last_day }

-- the most alternatives of a tree and of each of its parts
abbrev pub max_alternatives : ℕ
max_alternatives = 64
