-- Which scripts are read back from their texts.
use Rattle.std.specs.Prelude.{◌≡◌, ◌≢◌, ℕ, ◌<◌, ◌≤◌, true, List, [], ◌∷◌, length, slice_index_or, codes}
use Rattle.std.specs.List.{AllByRecursion, flat_map}
use Rattle.std.specs.Str.{IsUtf8}
use Rattle.photo_record.specs.Limits.{IsPicNo}
use Rattle.photo_record.specs.Word.{IsWordSet}
use Rattle.photo_record.specs.declared.record.Record.{Record}
use Rattle.photo_record.specs.declared.record.Record.TheVariants as content
use Rattle.photo_version.specs.Author.{epoch_of_author}
use Rattle.photo_version.specs.Version.{Version}
use Rattle.photo_filter_text.specs.Tree.{Tree}
use Rattle.photo_filter_text.specs.Printed.{text_of}
use Rattle.photo_filter_rules.specs.Filters.{IsFilterOf}
use Rattle.fleet_model.specs.Contents.{Contents}
use Rattle.script_reader.specs.Fields.{is_name}
use Rattle.script_reader.specs.Limits.{max_text_bytes, max_line_bytes, max_version, max_epoch}
use Rattle.photo_script.specs.Reports.{IsOfScript}
use Rattle.fleet_model.specs.declared.command.Command.{Command}
use Rattle.fleet_model.specs.declared.command.Command.TheVariants as command
use Rattle.script_text.specs.Texts.{lines_of_script, text_of_script}

-- a line can name the version: its author is a device of the script, and its number and epoch aren't too great
pub record FitsVersion (s : Contents) (v : Version) : Type 0 where
  pub maker : IsOfScript s v
  pub first : 0 < v.number
  pub few : v.number ≤ max_version
  pub early : epoch_of_author v.author ≤ max_epoch

-- a line can state the record: it isn't a removal, and its words aren't `-` alone, which denotes no words
abbrev pub FitsRecord : Record → Type 0
FitsRecord (content.Picture rating day words) = words ≢ codes "-" ∷ []
FitsRecord content.Removed = ⊥

-- the filter's text reads as the filter: tokens, height and alternatives are within the limits
abbrev pub FitsFilter : Tree → Type 0
FitsFilter filter = IsFilterOf (text_of filter) filter

-- a line can state the command
abbrev pub FitsCommand : Contents → Command → Type 0
FitsCommand s (command.New device picture record_) = FitsRecord record_
FitsCommand s (command.Edit device picture record_) = FitsRecord record_
FitsCommand s (command.Remove device picture) = Unit {0}
FitsCommand s (command.Pull target source) = Unit {0}
FitsCommand s (command.Narrow device filter) = FitsFilter filter
FitsCommand s (command.Refilter device filter) = FitsFilter filter
FitsCommand s (command.Preview target source) = Unit {0}
FitsCommand s (command.List device) = Unit {0}
FitsCommand s (command.Conflicts device) = Unit {0}
FitsCommand s (command.Knowledge device) = Unit {0}
FitsCommand s (command.Knows device picture v) = FitsVersion s v

-- the picture that a `new` command makes, as a list; empty for other commands
abbrev pub made_in : Command → List ℕ
made_in (command.New device picture record_) = picture ∷ []
made_in (command.Edit device picture record_) = []
made_in (command.Remove device picture) = []
made_in (command.Pull target source) = []
made_in (command.Narrow device filter) = []
made_in (command.Refilter device filter) = []
made_in (command.Preview target source) = []
made_in (command.List device) = []
made_in (command.Conflicts device) = []
made_in (command.Knowledge device) = []
made_in (command.Knows device picture v) = []

abbrev pub pictures_made : List Command → List ℕ
pictures_made commands = flat_map made_in commands

-- no element stands in the list twice
abbrev pub AllDiffer : {X : Type 0} → List X → Type 0
AllDiffer {X} xs = (i j : ℕ) (d : X) → i < j → j < length xs → slice_index_or xs i d ≢ slice_index_or xs j d

-- the line isn't too long
abbrev pub IsShort : List ℕ → Type 0
IsShort line = length line ≤ max_line_bytes

-- the script is within all limits of a script's text
pub record IsPrintable (s : Contents) : Type 0 where
  pub named : AllByRecursion (λ name. is_name name ≡ true) s.names
  pub apart : AllDiffer s.names
  pub filters : AllByRecursion FitsFilter s.filters
  pub commands : AllByRecursion (FitsCommand s) s.commands
  pub made_once : AllDiffer (pictures_made s.commands)
  pub lines : AllByRecursion IsShort (lines_of_script s)
  pub small : length (text_of_script s) ≤ max_text_bytes

-- a set of words, each in UTF-8
abbrev pub AreWords : List (List ℕ) → Type 0
AreWords words = IsWordSet words × AllByRecursion IsUtf8 words

abbrev pub HasWords : Record → Type 0
HasWords (content.Picture rating day words) = AreWords words
HasWords content.Removed = Unit {0}

-- what the types of a command's values guarantee
abbrev pub HasValues : Command → Type 0
HasValues (command.New device picture record_) = IsPicNo picture × HasWords record_
HasValues (command.Edit device picture record_) = IsPicNo picture × HasWords record_
HasValues (command.Remove device picture) = IsPicNo picture
HasValues (command.Pull target source) = Unit {0}
HasValues (command.Narrow device filter) = Unit {0}
HasValues (command.Refilter device filter) = Unit {0}
HasValues (command.Preview target source) = Unit {0}
HasValues (command.List device) = Unit {0}
HasValues (command.Conflicts device) = Unit {0}
HasValues (command.Knowledge device) = Unit {0}
HasValues (command.Knows device picture v) = IsPicNo picture

-- what the types of a script's values guarantee of the script and of its text
pub record IsOfValues (s : Contents) : Type 0 where
  pub commands : AllByRecursion HasValues s.commands
  pub utf8 : IsUtf8 (text_of_script s)
