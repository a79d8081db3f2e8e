use Rattle.std.proofs.Common.{refl}
use lib.Utf8.{encode}
use Rattle.std.specs.Fmt.{digits}
use Rattle.std.specs.Str.{chars}
use Rattle.jiff_core.specs.Calendar.{days_from_civil, day_count, days_of_years, days_of_months}
use Rattle.unicode_normalization.proofs.Computing.{unicode_normalization}
use Rattle.photo_record.specs.Calendar.{years_off, months_off, date_of}
use Rattle.photo_record.specs.Reading.{day_of_text, word_of_text, words_of_text}
use Rattle.photo_record.proofs.laws.examples.Goals as goal

pub returns-clause-ratings : goal.returns-clause-ratings
returns-clause-ratings c = record { none = refl; five = refl; six = refl; zeros = refl; empty = refl }

pub returns-clause-days : goal.returns-clause-days
unfolding day_of_text days_from_civil day_count days_of_years days_of_months
returns-clause-days c =
    record { first = refl; leap = refl; last = refl; no_leap = refl; no_zero = refl; five_digits = refl; space = refl; other_digit = refl }

pub returns-clause-words : goal.returns-clause-words
unfolding word_of_text chars encode unicode_normalization
returns-clause-words c =
    record { composed = refl; empty = refl; next_line = refl; no_break_space = refl; quote = refl; longest = refl; longer = refl }

pub returns-clause-sets : goal.returns-clause-sets
unfolding words_of_text word_of_text chars encode unicode_normalization
returns-clause-sets c =
    record { dash = refl; dash_and_word = refl; twice = refl; comma_last = refl; comma = refl; twice_in_form = refl; sixteen = refl; seventeen = refl }

pub returns-clause-shown : goal.returns-clause-shown
unfolding digits date_of years_off months_off
returns-clause-shown c = record { picture = refl; no_words = refl; removed = refl; first = refl; last = refl; dash = refl }
