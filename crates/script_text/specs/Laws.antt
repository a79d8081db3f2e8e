-- Laws of reading the texts of scripts.
use Rattle.std.specs.Prelude.{◌≡◌, ℕ, true, false, ◌<◌, ◌≤◌, [], ◌∷◌, length, Some, IfSome, Ok}
use Rattle.std.specs.List.{AllByRecursion}
use Rattle.photo_filter_text.specs.Limits.{max_tokens, max_height}
use Rattle.photo_filter_text.specs.Printed.{text_of, IsSound}
use Rattle.photo_filter_text.specs.Tokens.{tokens_of}
use Rattle.photo_filter_text.specs.Tree.{Tree, height}
use Rattle.photo_filter_rules.specs.Alternatives.{is_too_wide}
use Rattle.photo_filter_rules.specs.declared.polarity.Polarity.TheVariants.{Plain}
use Rattle.photo_filter_rules.specs.Matching.{IsInRange}
use Rattle.fleet_model.specs.Contents.{Contents, IsScript, IsWithin, record_of}
use Rattle.script_reader.specs.Earlier.{Earlier}
use Rattle.script_reader.specs.Fields.{is_name}
use Rattle.fleet_model.specs.Limits.{max_commands}
use Rattle.script_reader.specs.Reading.{script_of}
use Rattle.script_reader.specs.Saying.{said}
use Rattle.fleet_model.specs.declared.command.Command.{Command}
use Rattle.fleet_model.specs.declared.command.Command.TheVariants as command
use Rattle.script_text.specs.Texts.{line_of_command, text_of_script}
use Rattle.script_text.specs.Printable.{FitsFilter, FitsCommand, IsShort, made_in, AllDiffer, HasValues, IsPrintable, IsOfValues}

-- the text of a script within the limits reads as that script
abbrev pub PrintedIsRead : Type 0
PrintedIsRead = (s : Contents) → IsScript s → IsOfValues s → IsPrintable s → script_of (text_of_script s) ≡ Ok s

-- a line can state the command, with the names of the script's devices
pub record CanBeSaid (s : Contents) (x : Command) : Type 0 where
  pub named : AllByRecursion (λ name. is_name name ≡ true) s.names
  pub apart : AllDiffer s.names
  pub within : IsWithin (length s.names) x
  pub in_range : IfSome (record_of x) IsInRange
  pub fits : FitsCommand s x
  pub values : HasValues x
  pub short : IsShort (line_of_command s x)

-- the lines before the command's declare all devices, leave room for one more command, and don't make the picture that it makes
pub record IsBefore (s : Contents) (x : Command) (before : Earlier) : Type 0 where
  pub names : before.names ≡ s.names
  pub room : before.commands < max_commands
  pub fresh : (p : ℕ) → made_in x ≡ p ∷ [] → before.makes p ≡ false

-- behind such lines, the command's line reads as the command
abbrev pub LineIsRead : Type 0
LineIsRead = (s : Contents) (x : Command) (before : Earlier) → CanBeSaid s x → IsBefore s x before → said before (line_of_command s x) ≡ Ok (Some x)

-- the text of a filter within its limits reads as that filter
abbrev pub ShortFilterFits : Type 0
ShortFilterFits = (tree : Tree) → IsSound tree → length (tokens_of (text_of tree)) ≤ max_tokens → height tree ≤ max_height → is_too_wide tree Plain ≡ false → FitsFilter tree

-- what the types of values say further, of filters and of version numbers
abbrev pub HasTyped : Command → Type 0
HasTyped (command.New device picture record_) = Unit {0}
HasTyped (command.Edit device picture record_) = Unit {0}
HasTyped (command.Remove device picture) = Unit {0}
HasTyped (command.Pull target source) = Unit {0}
HasTyped (command.Narrow device filter) = IsSound filter
HasTyped (command.Refilter device filter) = IsSound filter
HasTyped (command.Preview target source) = Unit {0}
HasTyped (command.List device) = Unit {0}
HasTyped (command.Conflicts device) = Unit {0}
HasTyped (command.Knowledge device) = Unit {0}
HasTyped (command.Knows device picture v) = v.number < 4_294_967_296

pub record IsTyped (s : Contents) : Type 0 where
  pub filters : AllByRecursion IsSound s.filters
  pub commands : AllByRecursion HasTyped s.commands

-- only a script within the limits is read back from its text
abbrev pub ReadIsPrintable : Type 0
ReadIsPrintable = (s : Contents) → IsScript s → IsOfValues s → IsTyped s → script_of (text_of_script s) ≡ Ok s → IsPrintable s
