-- The worked examples, by computation.
use Rattle.std.specs.Prelude.{refl}
use Rattle.std.specs.Str.{chars, is_utf8}
use Rattle.std.specs.Fmt.{digits}
use lib.Utf8.{encode}
use Rattle.jiff_core.specs.Calendar.{days_from_civil, day_count, days_of_years, days_of_months}
use Rattle.unicode_normalization.proofs.Computing.{unicode_normalization}
use Rattle.photo_filter_text.specs.Steps.{symbol_of, at_factor, after_term, after_factor}
use Rattle.photo_filter_rules.specs.Filters.{filter_of}
use Rattle.photo_record.specs.Calendar.{date_of, years_off, months_off}
use Rattle.photo_record.specs.Reading.{day_of_text, words_of_text, word_of_text}
use Rattle.script_reader.specs.Saying.{said, fields_said, command_line_said, question_line_said, device_line_said, filter_said, declaration_said, new_line_said, creation_said, command_said, device_said, new_picture_said, record_said, list_line_said}
use Rattle.script_reader.specs.Reading.{script_of}
use Rattle.photo_script.specs.Reports.{text_of}
use Rattle.photo_script.specs.Examples.{FirstRun, KnownTexts, LaterEpochTexts, MovedTexts, Counts}

pub first_run : FirstRun
unfolding chars is_utf8 digits encode days_from_civil day_count days_of_years days_of_months unicode_normalization date_of years_off months_off day_of_text words_of_text word_of_text said fields_said command_line_said question_line_said device_line_said filter_said symbol_of at_factor after_term after_factor filter_of declaration_said new_line_said creation_said command_said device_said new_picture_said record_said list_line_said script_of text_of
first_run = record { script = refl; made = refl; listed = refl }

pub later_epoch_texts : LaterEpochTexts
unfolding chars digits encode text_of
later_epoch_texts = record { made = refl; known = refl }

pub known_texts : KnownTexts
unfolding chars digits encode text_of
known_texts = record { nothing = refl; star = refl; groups = refl; known = refl; unknown = refl }

pub moved_texts : MovedTexts
unfolding chars digits encode text_of
moved_texts = record {
  pulled = refl;
  counted = refl;
  previewed = refl;
  refiltered = refl;
  narrowed = refl;
  not_held = refl;
  refused = refl;
  one = refl;
  two = refl;
  none = refl;
}

pub counts : Counts
counts = record { empty = refl; silent = refl; first = refl; pulled = refl; refused = refl; told = refl }
