-- Which lines are words of the shell's own, and which are lines of a script.
use Rattle.std.specs.Prelude.{ℕ, if◌then◌else◌, List, [], ◌∷◌, codes}
use Rattle.std.specs.Str.{is_utf8}
use Rattle.std.specs.Str.Lines.{strip_carriage_return}
use Rattle.script_reader.specs.Fields.{is_word}
use Rattle.script_reader.specs.Lines.{fields_of}
use Rattle.fleet_shell.specs.declared.kind.Kind.{Kind}
use Rattle.fleet_shell.specs.declared.kind.Kind.TheVariants.{Line, Where, Story, Undo, Save, Help, Quit}

-- of a line with that first field
unfoldable pub kind_of_word : List ℕ → Kind
kind_of_word word =
    if is_word word (codes "where") then Where
    else (if is_word word (codes "story") then Story
    else (if is_word word (codes "undo") then Undo
    else (if is_word word (codes "save") then Save
    else (if is_word word (codes "help") then Help
    else (if is_word word (codes "quit") then Quit else Line)))))

-- of a line with those fields
abbrev pub kind_of_fields : List (List ℕ) → Kind
kind_of_fields [] = Line
kind_of_fields (word ∷ more) = kind_of_word word

-- of a line, which is a script's unless its first field is one of the six words; a CR at its end belongs to no field
abbrev pub kind_of : List ℕ → Kind
kind_of line = if is_utf8 line then kind_of_fields (fields_of (strip_carriage_return line)) else Line
