-- Scripts that grow by lines.
use Rattle.std.specs.Prelude.{◌≡◌, ◌<◌, ◌≤◌, ℕ, zero, suc, true, List, [], ◌∷◌, ◌++◌, length, map, Option, Some, None, Result, Ok, Err}
use Rattle.std.specs.Str.{is_utf8}
use Rattle.std.specs.Str.Lines.{strip_carriage_return}
use Rattle.fleet_model.specs.Contents.{Contents, contents}
use Rattle.fleet_model.specs.declared.command.Command.{Command}
use Rattle.script_reader.specs.Limits.{max_text_bytes}
use Rattle.script_reader.specs.Lines.{pieces_of, fields_of, third_field_on}
use Rattle.script_reader.specs.Making.{made_number}
use Rattle.script_reader.specs.Reading.{script_of}
use Rattle.script_reader.specs.Saying.{said}
use Rattle.script_reader.specs.Steps.{HasTaken, IsAsItWas, Leads, Refuses, Takes, seen}
use Rattle.script_reader.specs.declared.reader.Reader.{Reader}
use Rattle.script_reader.specs.declared.refusal.Refusal.{Refusal}
use Rattle.script_reader.specs.declared.growing.GrowingScript.{GrowingScript}
use Rattle.script_reader.specs.declared.growing.Last.{Last}
use Rattle.script_reader.specs.declared.growing.Said.{Said}
use Rattle.script_reader.specs.declared.growing.Said.TheVariants as said

-- the script of the lines so far
abbrev pub script_in : GrowingScript → Contents
script_in g = g.reader.script

-- the text with one more line, which an LF separates from the lines before it; `n` lines come before it
abbrev pub with_line : ℕ → List ℕ → List ℕ → List ℕ
with_line zero text line = line
with_line (suc n) text line = text ++ 10 ∷ line

-- the lines of a text that has `n` lines, each without a CR at its end. The empty text is that of no line and of one empty line
abbrev pub lines_in : ℕ → List ℕ → List (List ℕ)
lines_in zero text = []
lines_in (suc n) text = map strip_carriage_return (pieces_of text)

-- the text has these numbers of lines and bytes, and the reader has read it
pub record AreTaken (text : List ℕ) (r : Reader) (lines bytes : ℕ) : Type 0 where
  pub bytes_are : bytes ≡ length text
  pub lines_are : length (lines_in lines text) ≡ lines
  pub none : lines ≡ 0 → text ≡ []
  pub small : length text ≤ max_text_bytes
  pub utf8 : is_utf8 text ≡ true
  pub taken : HasTaken (lines_in lines text) r
  pub read : script_of text ≡ Ok r.script

-- the script has grown by the lines of the text, and is the script of that text
abbrev pub IsGrown : List ℕ → GrowingScript → Type 0
IsGrown text g = AreTaken text g.reader g.lines g.bytes

-- a device was declared, and there are no commands yet
pub record IsDeclared (old new : Contents) : Type 0 where
  pub before : old.commands ≡ []
  pub none : new.commands ≡ []

-- how the script has changed by a line of that kind
abbrev pub Adds : Said → Contents → Contents → Type 0
Adds said.Nothing old new = new ≡ old
Adds said.Device old new = IsDeclared old new
Adds said.Command old new = (c : Command) × (new ≡ contents old.names old.filters (old.commands ++ c ∷ []))

-- the last line can be removed, after which the script is that of the text
pub record GoesBack (text : List ℕ) (lines : ℕ) (g : GrowingScript) (last : Last) (was : Reader) : Type 0 where
  pub kept : g.last ≡ Some last
  pub one_more : g.lines ≡ suc lines
  pub grown : AreTaken text was lines last.bytes
  pub leads : Leads was last.devices last.commands last.made g.reader

abbrev pub GoesBackTo : List ℕ → ℕ → GrowingScript → Type 0
GoesBackTo text lines g = (last : Last) × (was : Reader) × GoesBack text lines g last was

-- no line can be taken back
abbrev pub HasNoneToTakeBack : GrowingScript → Type 0
HasNoneToTakeBack g = g.last ≡ None

-- what can be taken back is unchanged: the same line, or none
abbrev pub TakesBackTheSame : GrowingScript → GrowingScript → Type 0
TakesBackTheSame old new = new.last ≡ old.last

-- Machinery of the proofs: what a line adds to a script, told by the numbers of commands and of devices
pub record Grows (old new : Contents) : Type 0 where
  pub command : length old.commands < length new.commands → (c : Command) × (new ≡ contents old.names old.filters (old.commands ++ c ∷ []))
  pub device : length new.commands ≤ length old.commands → length old.names < length new.names → IsDeclared old new
  pub nothing : length new.commands ≤ length old.commands → length new.names ≤ length old.names → new ≡ old

-- Machinery of the proofs: the result of a line for a reader, with the picture that the line makes
abbrev pub ReadsLine : Reader → List ℕ → Result (Option ℕ) Refusal → Reader → Type 0
ReadsLine old line (Ok made) new = (x : Option Command) × (said (seen old) line ≡ Ok x) × Takes old (fields_of line) (third_field_on line) x new × (made ≡ made_number (fields_of line))
ReadsLine old line (Err e) new = Refuses e (said (seen old) line) × IsAsItWas old new
