-- The script of a text.
use Rattle.std.specs.Prelude.{◌≡◌, ◌≢◌, ℕ, ◌+◌, ◌≤◌, true, not, nat_lt, if◌then◌else◌, List, [], ◌∷◌, ◌++◌, length, Option, option_to_list, Result, Ok, Err, IsOk, map}
use Rattle.std.specs.Str.{is_utf8}
use Rattle.std.specs.Str.Lines.{strip_carriage_return}
use Rattle.script_reader.specs.Limits.{max_text_bytes, max_line_bytes}
use Rattle.script_reader.specs.Lines.{pieces_of, lines_of, fields_of}
use Rattle.photo_filter_text.specs.Tree.{Tree}
use Rattle.script_reader.specs.Earlier.{earlier, names_of, filters_of}
use Rattle.script_reader.specs.Saying.{said}
use Rattle.fleet_model.specs.Contents.{Contents, contents}
use Rattle.fleet_model.specs.declared.command.Command.{Command}
use Rattle.script_reader.specs.declared.fault.LineFault.{LineFault}
use Rattle.script_reader.specs.declared.fault.ScriptFault.{ScriptFault}
use Rattle.script_reader.specs.declared.fault.ScriptFault.TheVariants.{TooLarge, NotUtf8, Line}

-- what each line says, given the lines before it
abbrev pub sayings : List (List ℕ) → List (List ℕ) → List (Result (Option Command) LineFault)
sayings before [] = []
sayings before (line ∷ more) = said (earlier before) line ∷ sayings (before ++ line ∷ []) more

-- with more commands in front
abbrev pub with_front : List Command → Result (List Command) ScriptFault → Result (List Command) ScriptFault
with_front front (Ok commands) = Ok (front ++ commands)
with_front front (Err e) = Err e

-- the commands of lines, or the first fault with its line's number; the first line has the number `number`
abbrev pub commands_said : ℕ → List (Result (Option Command) LineFault) → Result (List Command) ScriptFault
commands_said number [] = Ok []
commands_said number (Ok x ∷ more) = with_front (option_to_list x) (commands_said (number + 1) more)
commands_said number (Err e ∷ more) = Err (Line number e)

abbrev pub script_of_commands : List (List ℕ) → List Tree → Result (List Command) ScriptFault → Result Contents ScriptFault
script_of_commands names filters (Ok commands) = Ok (contents names filters commands)
script_of_commands names filters (Err e) = Err e

abbrev pub script_of_lines : List (List ℕ) → Result Contents ScriptFault
script_of_lines lines = script_of_commands (names_of lines) (filters_of lines) (commands_said 1 (sayings [] lines))

-- the script of a text, or its first fault
unfoldable pub script_of : List ℕ → Result Contents ScriptFault
script_of text =
    if nat_lt max_text_bytes (length text) then Err TooLarge
    else (if not (is_utf8 text) then Err NotUtf8
    else script_of_lines (lines_of text))

-- memory may be asked for: the text has a line that isn't too long and has a field, and no line before it has a fault
pub record MayWantMemory (text : List ℕ) : Type 0 where
  pub small : length text ≤ max_text_bytes
  pub utf8 : is_utf8 text ≡ true
  pub before : List (List ℕ)
  pub line : List ℕ
  pub more : List (List ℕ)
  pub whole : map strip_carriage_return (pieces_of text) ≡ before ++ line ∷ more
  pub no_fault : IsOk (script_of_lines before)
  pub short : length line ≤ max_line_bytes
  pub has_field : fields_of line ≢ []
