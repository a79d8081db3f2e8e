-- The text of a script: a line for each device, then a line for each command, each ended by LF.
use Rattle.std.specs.Prelude.{ℕ, List, [], ◌∷◌, ◌++◌, map, codes}
use Rattle.std.specs.Fmt.{decimal}
use Rattle.std.specs.List.{flat_map}
use Rattle.photo_record.specs.declared.record.Record.{Record}
use Rattle.photo_record.specs.declared.record.Record.TheVariants as content
use Rattle.photo_filter_text.specs.Tree.{Tree}
use Rattle.photo_filter_text.specs.Printed.{◌␣◌, text_of, date_text}
use Rattle.fleet_model.specs.Contents.{Contents}
use Rattle.photo_record.specs.Showing.{words_text}
use Rattle.photo_script.specs.Reports.{name_of, version_text}
use Rattle.fleet_model.specs.declared.command.Command.{Command}
use Rattle.fleet_model.specs.declared.command.Command.TheVariants as command

-- RATING DATE WORDS; the text of a removal isn't read back, since no line of a script states one
abbrev pub record_text : Record → List ℕ
record_text (content.Picture rating day words) = decimal rating ␣ date_text day ␣ words_text words
record_text content.Removed = codes "removed"

-- the line of a command, without its LF
unfoldable pub line_of_command : Contents → Command → List ℕ
line_of_command s (command.New device picture record_) = codes "new" ␣ name_of s device ␣ decimal picture ␣ record_text record_
line_of_command s (command.Edit device picture record_) = codes "edit" ␣ name_of s device ␣ decimal picture ␣ record_text record_
line_of_command s (command.Remove device picture) = codes "remove" ␣ name_of s device ␣ decimal picture
line_of_command s (command.Pull target source) = codes "pull" ␣ name_of s target ␣ name_of s source
line_of_command s (command.Narrow device filter) = codes "narrow" ␣ name_of s device ␣ text_of filter
line_of_command s (command.Refilter device filter) = codes "refilter" ␣ name_of s device ␣ text_of filter
line_of_command s (command.Preview target source) = codes "preview" ␣ name_of s target ␣ name_of s source
line_of_command s (command.List device) = codes "list" ␣ name_of s device
line_of_command s (command.Conflicts device) = codes "conflicts" ␣ name_of s device
line_of_command s (command.Knowledge device) = codes "knowledge" ␣ name_of s device
line_of_command s (command.Knows device picture v) = codes "knows" ␣ name_of s device ␣ decimal picture ␣ version_text s v

-- the line of a device
abbrev pub line_of_device : List ℕ → Tree → List ℕ
line_of_device name filter = codes "device" ␣ name ␣ text_of filter

-- one line for each name and its filter
abbrev pub lines_of_devices : List (List ℕ) → List Tree → List (List ℕ)
lines_of_devices [] filters = []
lines_of_devices (name ∷ names) [] = []
lines_of_devices (name ∷ names) (filter ∷ filters) = line_of_device name filter ∷ lines_of_devices names filters

abbrev pub lines_of_script : Contents → List (List ℕ)
lines_of_script s = lines_of_devices s.names s.filters ++ map (line_of_command s) s.commands

-- a line with its LF
abbrev pub ended : List ℕ → List ℕ
ended line = line ++ codes "\n"

abbrev pub text_of_lines : List (List ℕ) → List ℕ
text_of_lines lines = flat_map ended lines

abbrev pub text_of_script : Contents → List ℕ
text_of_script s = text_of_lines (lines_of_script s)
