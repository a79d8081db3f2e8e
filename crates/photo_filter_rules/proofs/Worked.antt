-- Worked texts of filters, by computation.
use Rattle.std.specs.Prelude.{refl}
use Rattle.std.specs.Str.{chars, is_utf8}
use lib.Utf8.{encode}
use Rattle.jiff_core.specs.Calendar.{days_from_civil, day_count, days_of_years, days_of_months}
use Rattle.unicode_normalization.proofs.Computing.{unicode_normalization}
use Rattle.photo_record.specs.Reading.{day_of_text, word_of_text}
use Rattle.photo_filter_text.specs.Steps.{symbol_of, at_factor, after_term, after_factor}
use Rattle.photo_filter_rules.specs.Filters.{filter_of}
use Rattle.photo_filter_rules.specs.Examples.{TheFilters}

pub the_filters : TheFilters
unfolding chars is_utf8 encode days_from_civil day_count days_of_years days_of_months unicode_normalization day_of_text word_of_text symbol_of at_factor after_term after_factor filter_of
the_filters = record {
  brackets = refl;
  word = refl;
  from_left = refl;
  day = refl;
  empty = refl;
  two = refl;
  no_rating = refl;
  no_space = refl;
  bracket_for_word = refl;
  not_closed = refl;
  short = refl;
  no_word = refl;
  low = refl;
  deep = refl;
  wide = refl;
}
