-- The worked examples compute by the definitions alone.
use Rattle.std.specs.Prelude.{refl}
use Rattle.std.specs.Str.{chars, is_utf8}
use lib.Utf8.{encode}
use Rattle.jiff_core.specs.Calendar.{days_from_civil, day_count, days_of_years, days_of_months}
use Rattle.unicode_normalization.proofs.Computing.{unicode_normalization}
use Rattle.photo_filter_text.specs.Steps.{symbol_of, at_factor, after_term, after_factor}
use Rattle.photo_filter_rules.specs.Filters.{filter_of}
use Rattle.photo_record.specs.Reading.{day_of_text, words_of_text, word_of_text}
use Rattle.script_reader.specs.Saying.{said, fields_said, command_line_said, question_line_said, device_line_said, filter_said, declaration_said, new_line_said, creation_said, command_said, device_said, new_picture_said, record_said, list_line_said, picture_said, edition_said, edit_line_said, removal_said, remove_line_said, two_said, two_devices_said, pull_line_said, preview_line_said, filtering_said, device_and_filter_said, narrow_line_said, refilter_line_said, conflicts_line_said, knowledge_line_said, knows_line_said, question_said, author_said, version_said}
use Rattle.script_reader.specs.Reading.{script_of}
use Rattle.script_reader.specs.Examples.{SingleFaults, TwoFaults, LinesAndFields, Filters, Changes, Questions, LaterEpochs, Moves, OtherMoves, ManyDevices}

pub single_faults : SingleFaults
unfolding chars is_utf8 encode days_from_civil day_count days_of_years days_of_months unicode_normalization day_of_text words_of_text word_of_text said fields_said command_line_said question_line_said device_line_said filter_said symbol_of at_factor after_term after_factor filter_of declaration_said new_line_said creation_said command_said device_said new_picture_said record_said list_line_said script_of
single_faults = record {
  empty = refl;
  not_utf8 = refl;
  command = refl;
  fields = refl;
  name = refl;
  device = refl;
  repeated = refl;
  late = refl;
  number = refl;
  rating = refl;
  date = refl;
  words = refl;
  filter = refl;
  picture = refl;
}

pub two_faults : TwoFaults
unfolding chars is_utf8 encode days_from_civil day_count days_of_years days_of_months unicode_normalization day_of_text words_of_text word_of_text said fields_said command_line_said question_line_said device_line_said filter_said symbol_of at_factor after_term after_factor filter_of declaration_said new_line_said creation_said command_said device_said new_picture_said record_said list_line_said script_of
two_faults = record { late = refl; device = refl; repeated = refl; line = refl }

pub lines_and_fields : LinesAndFields
unfolding chars is_utf8 encode days_from_civil day_count days_of_years days_of_months unicode_normalization day_of_text words_of_text word_of_text said fields_said command_line_said question_line_said device_line_said filter_said symbol_of at_factor after_term after_factor filter_of declaration_said new_line_said creation_said command_said device_said new_picture_said record_said list_line_said script_of
lines_and_fields = record { returns = refl; two_returns = refl; spaces = refl; tab = refl }

pub filters : Filters
unfolding chars is_utf8 encode days_from_civil day_count days_of_years days_of_months unicode_normalization day_of_text words_of_text word_of_text said fields_said command_line_said question_line_said device_line_said filter_said symbol_of at_factor after_term after_factor filter_of declaration_said new_line_said creation_said command_said device_said new_picture_said record_said list_line_said script_of
filters = record { rating = refl; brackets = refl; two = refl; more = refl; bracket = refl; name = refl; repeated = refl }

pub changes : Changes
unfolding chars is_utf8 encode days_from_civil day_count days_of_years days_of_months unicode_normalization day_of_text words_of_text word_of_text said fields_said command_line_said question_line_said device_line_said filter_said symbol_of at_factor after_term after_factor filter_of declaration_said new_line_said creation_said command_said device_said new_picture_said record_said list_line_said picture_said edition_said edit_line_said removal_said remove_line_said script_of
changes = record { edit = refl; few = refl; many = refl; device = refl; number = refl; rating = refl }

pub questions : Questions
unfolding chars is_utf8 encode said fields_said command_line_said question_line_said device_line_said filter_said symbol_of at_factor after_term after_factor filter_of declaration_said command_said device_said picture_said knowledge_line_said knows_line_said question_said author_said version_said script_of
questions = record {
  asked = refl;
  number = refl;
  zero = refl;
  leading_zero = refl;
  two_colons = refl;
  no_colon = refl;
  name_first = refl;
  no_name = refl;
  device_first = refl;
  picture_second = refl;
  few = refl;
  many = refl;
  whose = refl;
  none = refl;
  both = refl;
}

pub later_epochs : LaterEpochs
unfolding chars is_utf8 encode said fields_said command_line_said question_line_said device_line_said filter_said symbol_of at_factor after_term after_factor filter_of declaration_said command_said device_said picture_said knowledge_line_said knows_line_said question_said author_said version_said script_of
later_epochs = record {
  asked = refl;
  first_given = refl;
  leading_zero = refl;
  no_epoch = refl;
  no_colon = refl;
  too_late = refl;
  two_dots = refl;
  no_number = refl;
  name_first = refl;
  no_name = refl;
}

pub moves : Moves
unfolding chars is_utf8 encode said fields_said command_line_said question_line_said device_line_said filter_said symbol_of at_factor after_term after_factor filter_of declaration_said command_said device_said two_said two_devices_said pull_line_said filtering_said device_and_filter_said narrow_line_said conflicts_line_said script_of
moves = record {
  moved = refl;
  itself = refl;
  target = refl;
  source = refl;
  neither = refl;
  few = refl;
  many = refl;
  filter = refl;
  device_first = refl;
  no_filter = refl;
  whose = refl;
  none = refl;
  late = refl;
}

pub other_moves : OtherMoves
unfolding chars is_utf8 encode said fields_said command_line_said question_line_said device_line_said filter_said symbol_of at_factor after_term after_factor filter_of declaration_said command_said device_said two_said two_devices_said preview_line_said filtering_said device_and_filter_said refilter_line_said list_line_said script_of
other_moves = record {
  previewed = refl;
  itself = refl;
  source = refl;
  neither = refl;
  few = refl;
  many = refl;
  refiltered = refl;
  filter = refl;
  device_first = refl;
  no_filter = refl;
  late = refl;
}

pub many_devices : ManyDevices
unfolding chars is_utf8 encode said fields_said device_line_said filter_said symbol_of at_factor after_term after_factor filter_of declaration_said
many_devices = record { more = refl; last = refl; repeated = refl; too_many = refl; too_many_names = refl; fields = refl }
