-- Scripts and their texts, worked.
use Rattle.std.specs.Prelude.{◌≡◌, ℕ, pos, List, [], ◌∷◌, Ok, Err, codes}
use Rattle.photo_record.specs.declared.record.Record.{Record}
use Rattle.photo_record.specs.declared.record.Record.TheVariants as content
use Rattle.photo_filter_text.specs.declared.tree.Cmp.TheVariants.{AtLeast, Equal}
use Rattle.photo_filter_text.specs.Tree.{All, Rate, Not, Keyword, Both, Either}
use Rattle.photo_version.specs.Author.{author, author_at}
use Rattle.photo_version.specs.Version.{version}
use Rattle.fleet_model.specs.Contents.{Contents, contents}
use Rattle.script_reader.specs.Reading.{script_of}
use Rattle.fleet_model.specs.declared.command.Command.{Command}
use Rattle.fleet_model.specs.declared.command.Command.TheVariants as command
use Rattle.script_reader.specs.declared.fault.LineFault.TheVariants as fault
use Rattle.script_reader.specs.declared.fault.ScriptFault.TheVariants.{Line}
use Rattle.script_text.specs.Texts.{text_of_script}

abbrev pub beach : Record
beach = content.Picture 5 (pos 19_844) (codes "beach" ∷ codes "sun" ∷ [])

abbrev pub bare : Record
bare = content.Picture 0 (pos 19_845) []

-- a script with a line of each kind
abbrev pub each_kind : Contents
each_kind = contents (codes "cam" ∷ codes "hall" ∷ []) (All ∷ Rate AtLeast 3 ∷ []) (
    command.New 0 7 beach ∷ command.Edit 0 7 bare ∷ command.Pull 1 0 ∷ command.Preview 1 0
    ∷ command.Narrow 1 (Both (Rate AtLeast 3) (Keyword (codes "sun"))) ∷ command.Refilter 0 (Not (Either (Rate Equal 0) (Keyword (codes "x"))))
    ∷ command.List 0 ∷ command.Conflicts 1 ∷ command.Knowledge 1
    ∷ command.Knows 1 7 (version (author 0) 2) ∷ command.Knows 1 7 (version (author_at 0 12) 3) ∷ command.Remove 0 7 ∷ [])

abbrev pub each_text : List ℕ
each_text = codes "device cam all\ndevice hall rating >= 3\nnew cam 7 5 2024-05-01 beach,sun\nedit cam 7 0 2024-05-02 -\npull hall cam\npreview hall cam\nnarrow hall ( rating >= 3 and keyword sun )\nrefilter cam not ( rating = 0 or keyword x )\nlist cam\nconflicts hall\nknowledge hall\nknows hall 7 cam:2\nknows hall 7 cam.12:3\nremove cam 7\n"

pub record EachKind : Type 0 where
  pub printed : text_of_script each_kind ≡ each_text
  pub read : script_of each_text ≡ Ok each_kind

-- a script of one device and one command
abbrev pub camera : Command → Contents
camera x = contents (codes "cam" ∷ []) (All ∷ []) (x ∷ [])

-- a command that makes a picture with one word
abbrev pub worded : List ℕ → Command
worded word = command.New 0 7 (content.Picture 5 (pos 19_844) (word ∷ []))

-- the empty script has the empty text; and texts that aren't read as their scripts: with the word `-` alone, with a great
-- version number or epoch, and with a removed picture
pub record NotAgain : Type 0 where
  pub empty : text_of_script (contents [] [] []) ≡ []
  pub dash : script_of (text_of_script (camera (worded (codes "-")))) ≡ Ok (camera (command.New 0 7 (content.Picture 5 (pos 19_844) [])))
  pub number : script_of (text_of_script (camera (command.Knows 0 7 (version (author 0) 100_001)))) ≡ Err (Line 2 fault.BadNumber)
  pub epoch : script_of (text_of_script (camera (command.Knows 0 7 (version (author_at 0 100_001) 1)))) ≡ Err (Line 2 fault.BadNumber)
  pub removed : script_of (text_of_script (camera (command.New 0 7 content.Removed))) ≡ Err (Line 2 fault.WrongFields)
