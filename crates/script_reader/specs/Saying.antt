-- What a line says, given the lines before it: a command, or nothing that runs, or its first fault.
use Rattle.std.specs.Prelude.{ℕ, not, nat_le, nat_lt, ◌==◌, if◌then◌else◌, List, [], ◌∷◌, length, Option, Some, None, is_some, Result, Ok, Err, codes}
use Rattle.photo_record.specs.Reading.{rating_of_text, day_of_text, words_of_text}
use Rattle.photo_record.specs.declared.record.Record.{Record}
use Rattle.photo_record.specs.declared.record.Record.TheVariants as content
use Rattle.photo_record.specs.declared.fault.WordFault.{WordFault}
use Rattle.fleet_model.specs.Limits.{max_devices, max_commands}
use Rattle.script_reader.specs.Limits.{max_line_bytes}
use Rattle.photo_filter_text.specs.Tree.{Tree}
use Rattle.photo_filter_rules.specs.Filters.{filter_of}
use Rattle.photo_version.specs.Author.{Author, author, author_at}
use Rattle.photo_version.specs.Version.{Version, version}
use Rattle.script_reader.specs.Lines.{fields_of, third_field_on}
use Rattle.script_reader.specs.Fields.{is_word, is_name, place_of, picture_of, cut_at_colon, cut_at_dot, epoch_of, version_number_of}
use Rattle.script_reader.specs.Earlier.{Earlier, is_comment}
use Rattle.fleet_model.specs.declared.command.Command.{Command}
use Rattle.fleet_model.specs.declared.command.Command.TheVariants as command
use Rattle.script_reader.specs.declared.fault.LineFault.{LineFault}
use Rattle.script_reader.specs.declared.fault.LineFault.TheVariants as fault

infixl 10 ◌>>=◌
abbrev pub ◌>>=◌ : {A B : Type 0} → Result A LineFault → (A → Result B LineFault) → Result B LineFault
(Ok x) >>= f = f x
(Err e) >>= f = Err e

-- the value of a field, or a fault if it has none
abbrev pub or_fault : {A : Type 0} → Option A → LineFault → Result A LineFault
or_fault None e = Err e
or_fault (Some x) e = Ok x

-- the place of a declared device
unfoldable pub device_said : Earlier → List ℕ → Result ℕ LineFault
device_said before name = or_fault (place_of before.names name) fault.UnknownDevice

-- a picture that no earlier line makes
unfoldable pub new_picture_said : Earlier → List ℕ → Result ℕ LineFault
new_picture_said before text = do
  picture ← or_fault (picture_of text) fault.BadNumber
  if before.makes picture then Err fault.RepeatedPicture else Ok picture

abbrev pub word_set : Result (List (List ℕ)) WordFault → Option (List (List ℕ))
word_set (Ok words) = Some words
word_set (Err e) = None

-- a rating, a day and words
unfoldable pub record_said : List ℕ → List ℕ → List ℕ → Result Record LineFault
record_said rating date words = do
  stars ← or_fault (rating_of_text rating) fault.BadRating
  day ← or_fault (day_of_text date) fault.BadDate
  set ← or_fault (word_set (words_of_text words)) fault.BadKeyword
  Ok (content.Picture stars day set)

-- the filter of a text
unfoldable pub filter_said : List ℕ → Result Tree LineFault
filter_said text = or_fault (filter_of text) fault.BadFilter

-- a name that may be declared, and the text of its filter
unfoldable pub declaration_said : Earlier → List ℕ → List ℕ → Result (Option Command) LineFault
declaration_said before name filter =
    if nat_le max_devices (length before.names) then Err fault.TooMany
    else (if not (is_name name) then Err fault.BadName
    else (if is_some (place_of before.names name) then Err fault.RepeatedDevice
    else (filter_said filter >>= λ tree. Ok None)))

-- `device NAME FILTER`, by its fields after the first, and the text of FILTER. It comes before all commands
unfoldable pub device_line_said : Earlier → List (List ℕ) → List ℕ → Result (Option Command) LineFault
device_line_said before arguments filter = if nat_lt 0 before.commands then Err fault.LateDevice else by_cases arguments
  where
    by_cases : List (List ℕ) → Result (Option Command) LineFault
    by_cases [] = Err fault.WrongFields
    by_cases (name ∷ []) = Err fault.WrongFields
    by_cases (name ∷ first ∷ more) = declaration_said before name filter

-- what is said, if there is room for one more command
abbrev pub with_room : {A : Type 0} → Earlier → Result A LineFault → Result A LineFault
with_room before said = if nat_le max_commands before.commands then Err fault.TooMany else said

-- one more command
unfoldable pub command_said : Earlier → Result Command LineFault → Result (Option Command) LineFault
command_said before said = with_room before (said >>= λ x. Ok (Some x))

unfoldable pub creation_said : Earlier → List ℕ → List ℕ → Result Record LineFault → Result Command LineFault
creation_said before name picture rest = do
  device ← device_said before name
  number ← new_picture_said before picture
  record_ ← rest
  Ok (command.New device number record_)

-- `new DEV PIC RATING DATE WORDS`
unfoldable pub new_line_said : Earlier → List (List ℕ) → Result (Option Command) LineFault
new_line_said before (name ∷ picture ∷ rating ∷ date ∷ words ∷ []) = command_said before (creation_said before name picture (record_said rating date words))
new_line_said before arguments = Err fault.WrongFields

-- a picture, even one that no line makes
unfoldable pub picture_said : List ℕ → Result ℕ LineFault
picture_said text = or_fault (picture_of text) fault.BadNumber

unfoldable pub edition_said : Earlier → List ℕ → List ℕ → Result Record LineFault → Result Command LineFault
edition_said before name picture rest = do
  device ← device_said before name
  number ← picture_said picture
  record_ ← rest
  Ok (command.Edit device number record_)

-- `edit DEV PIC RATING DATE WORDS`
unfoldable pub edit_line_said : Earlier → List (List ℕ) → Result (Option Command) LineFault
edit_line_said before (name ∷ picture ∷ rating ∷ date ∷ words ∷ []) = command_said before (edition_said before name picture (record_said rating date words))
edit_line_said before arguments = Err fault.WrongFields

unfoldable pub removal_said : Earlier → List ℕ → List ℕ → Result Command LineFault
removal_said before name picture = do
  device ← device_said before name
  number ← picture_said picture
  Ok (command.Remove device number)

-- `remove DEV PIC`
unfoldable pub remove_line_said : Earlier → List (List ℕ) → Result (Option Command) LineFault
remove_line_said before (name ∷ picture ∷ []) = command_said before (removal_said before name picture)
remove_line_said before arguments = Err fault.WrongFields

-- two different devices
unfoldable pub two_said : Earlier → List ℕ → List ℕ → Result (ℕ × ℕ) LineFault
two_said before target source = do
  first ← device_said before target
  second ← device_said before source
  if first == second then Err fault.SameDevice else Ok (first, second)

-- TARGET and SOURCE of one more command
unfoldable pub two_devices_said : Earlier → List (List ℕ) → Result (ℕ × ℕ) LineFault
two_devices_said before (target ∷ source ∷ []) = with_room before (two_said before target source)
two_devices_said before arguments = Err fault.WrongFields

-- `pull TARGET SOURCE`
unfoldable pub pull_line_said : Earlier → List (List ℕ) → Result (Option Command) LineFault
pull_line_said before arguments = two_devices_said before arguments >>= λ two. Ok (Some (command.Pull two.0 two.1))

-- `preview TARGET SOURCE`
unfoldable pub preview_line_said : Earlier → List (List ℕ) → Result (Option Command) LineFault
preview_line_said before arguments = two_devices_said before arguments >>= λ two. Ok (Some (command.Preview two.0 two.1))

unfoldable pub filtering_said : Earlier → List ℕ → List ℕ → Result (ℕ × Tree) LineFault
filtering_said before name filter = do
  device ← device_said before name
  tree ← filter_said filter
  Ok (device, tree)

-- DEV and FILTER of one more command, by its fields after the first, and the text of FILTER
unfoldable pub device_and_filter_said : Earlier → List (List ℕ) → List ℕ → Result (ℕ × Tree) LineFault
device_and_filter_said before [] filter = Err fault.WrongFields
device_and_filter_said before (name ∷ []) filter = Err fault.WrongFields
device_and_filter_said before (name ∷ first ∷ more) filter = with_room before (filtering_said before name filter)

-- `narrow DEV FILTER`
unfoldable pub narrow_line_said : Earlier → List (List ℕ) → List ℕ → Result (Option Command) LineFault
narrow_line_said before arguments filter = device_and_filter_said before arguments filter >>= λ new. Ok (Some (command.Narrow new.0 new.1))

-- `refilter DEV FILTER`
unfoldable pub refilter_line_said : Earlier → List (List ℕ) → List ℕ → Result (Option Command) LineFault
refilter_line_said before arguments filter = device_and_filter_said before arguments filter >>= λ new. Ok (Some (command.Refilter new.0 new.1))

-- `list DEV`
unfoldable pub list_line_said : Earlier → List (List ℕ) → Result (Option Command) LineFault
list_line_said before (name ∷ []) = command_said before (device_said before name >>= λ device. Ok (command.List device))
list_line_said before arguments = Err fault.WrongFields

-- `conflicts DEV`
unfoldable pub conflicts_line_said : Earlier → List (List ℕ) → Result (Option Command) LineFault
conflicts_line_said before (name ∷ []) = command_said before (device_said before name >>= λ device. Ok (command.Conflicts device))
conflicts_line_said before arguments = Err fault.WrongFields

-- `NAME`, or `NAME.E`, cut at its first dot: a declared device in its first epoch, 0, or a later one
unfoldable pub author_said : Earlier → List ℕ → Result Author LineFault
author_said before text = by_cases (cut_at_dot text)
  where
    by_cases : Option (List ℕ × List ℕ) → Result Author LineFault
    by_cases None = device_said before text >>= λ device. Ok (author device)
    by_cases (Some (name, epoch)) = do
      device ← device_said before name
      number ← or_fault (epoch_of epoch) fault.BadNumber
      Ok (author_at device number)

-- `AUTHOR:N`, cut at its first colon: a version of a declared device, even one that is never made
unfoldable pub version_said : Earlier → List ℕ → Result Version LineFault
version_said before text = do
  parts ← or_fault (cut_at_colon text) fault.BadNumber
  maker ← author_said before parts.0
  number ← or_fault (version_number_of parts.1) fault.BadNumber
  Ok (version maker number)

-- `knowledge DEV`
unfoldable pub knowledge_line_said : Earlier → List (List ℕ) → Result (Option Command) LineFault
knowledge_line_said before (name ∷ []) = command_said before (device_said before name >>= λ device. Ok (command.Knowledge device))
knowledge_line_said before arguments = Err fault.WrongFields

unfoldable pub question_said : Earlier → List ℕ → List ℕ → List ℕ → Result Command LineFault
question_said before name picture text = do
  device ← device_said before name
  number ← picture_said picture
  v ← version_said before text
  Ok (command.Knows device number v)

-- `knows DEV PIC VERSION`
unfoldable pub knows_line_said : Earlier → List (List ℕ) → Result (Option Command) LineFault
knows_line_said before (name ∷ picture ∷ text ∷ []) = command_said before (question_said before name picture text)
knows_line_said before arguments = Err fault.WrongFields

-- a line that asks a question, by its first field and the other fields
unfoldable pub question_line_said : Earlier → List ℕ → List (List ℕ) → Result (Option Command) LineFault
question_line_said before word arguments =
    if is_word word (codes "preview") then preview_line_said before arguments
    else (if is_word word (codes "list") then list_line_said before arguments
    else (if is_word word (codes "conflicts") then conflicts_line_said before arguments
    else (if is_word word (codes "knowledge") then knowledge_line_said before arguments
    else (if is_word word (codes "knows") then knows_line_said before arguments
    else Err fault.UnknownCommand))))

-- a command, by the first field of its line, the other fields, and the text from the third field on
unfoldable pub command_line_said : Earlier → List ℕ → List (List ℕ) → List ℕ → Result (Option Command) LineFault
command_line_said before word arguments filter =
    if is_word word (codes "new") then new_line_said before arguments
    else (if is_word word (codes "edit") then edit_line_said before arguments
    else (if is_word word (codes "remove") then remove_line_said before arguments
    else (if is_word word (codes "pull") then pull_line_said before arguments
    else (if is_word word (codes "narrow") then narrow_line_said before arguments filter
    else (if is_word word (codes "refilter") then refilter_line_said before arguments filter
    else question_line_said before word arguments)))))

-- a line, by its fields and its text from the third field on: empty lines and comments say nothing
unfoldable pub fields_said : Earlier → List (List ℕ) → List ℕ → Result (Option Command) LineFault
fields_said before [] filter = Ok None
fields_said before (word ∷ arguments) filter =
    if is_comment word then Ok None
    else (if is_word word (codes "device") then device_line_said before arguments filter
    else command_line_said before word arguments filter)

unfoldable pub said : Earlier → List ℕ → Result (Option Command) LineFault
said before line = if nat_lt max_line_bytes (length line) then Err fault.LineTooLong else fields_said before (fields_of line) (third_field_on line)
