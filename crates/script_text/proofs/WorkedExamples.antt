-- The worked examples, by computation.
use Rattle.std.specs.Prelude.{refl}
use Rattle.std.specs.Str.{chars, is_utf8}
use Rattle.std.specs.Fmt.{digits}
use lib.Utf8.{encode}
use Rattle.jiff_core.specs.Calendar.{days_from_civil, day_count, days_of_years, days_of_months}
use Rattle.unicode_normalization.proofs.Computing.{unicode_normalization}
use Rattle.photo_filter_text.specs.Steps.{symbol_of, at_factor, after_term, after_factor}
use Rattle.photo_filter_text.specs.Printed.{date_text}
use Rattle.photo_filter_rules.specs.Filters.{filter_of}
use Rattle.photo_record.specs.Calendar.{date_of, years_off, months_off}
use Rattle.photo_record.specs.Reading.{day_of_text, words_of_text, word_of_text}
use Rattle.script_reader.specs.Saying.{said, fields_said, command_line_said, question_line_said, device_line_said, filter_said, declaration_said, new_line_said, creation_said, command_said, device_said, new_picture_said, record_said, list_line_said, picture_said, edition_said, edit_line_said, removal_said, remove_line_said, two_said, two_devices_said, pull_line_said, preview_line_said, filtering_said, device_and_filter_said, narrow_line_said, refilter_line_said, conflicts_line_said, knowledge_line_said, knows_line_said, question_said, author_said, version_said}
use Rattle.script_reader.specs.Reading.{script_of}
use Rattle.script_text.specs.Texts.{line_of_command}
use Rattle.script_text.specs.Examples.{EachKind, NotAgain}

pub each_kind : EachKind
unfolding chars is_utf8 digits encode days_from_civil day_count days_of_years days_of_months unicode_normalization date_of years_off months_off date_text day_of_text words_of_text word_of_text said fields_said command_line_said question_line_said device_line_said filter_said symbol_of at_factor after_term after_factor filter_of declaration_said new_line_said creation_said command_said device_said new_picture_said record_said list_line_said picture_said edition_said edit_line_said removal_said remove_line_said two_said two_devices_said pull_line_said preview_line_said filtering_said device_and_filter_said narrow_line_said refilter_line_said conflicts_line_said knowledge_line_said knows_line_said question_said author_said version_said script_of line_of_command
each_kind = record { printed = refl; read = refl }

pub not_again : NotAgain
unfolding chars is_utf8 digits encode days_from_civil day_count days_of_years days_of_months unicode_normalization date_of years_off months_off date_text day_of_text words_of_text word_of_text said fields_said command_line_said question_line_said device_line_said filter_said symbol_of at_factor after_term after_factor filter_of declaration_said new_line_said creation_said command_said device_said new_picture_said record_said picture_said knows_line_said question_said author_said version_said script_of line_of_command
not_again = record { empty = refl; dash = refl; number = refl; epoch = refl; removed = refl }
