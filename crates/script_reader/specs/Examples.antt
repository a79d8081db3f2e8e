-- Worked examples of scripts.
use Rattle.std.specs.Prelude.{◌≡◌, ℕ, false, pos, List, [], ◌∷◌, replicate, None, Ok, Err, codes}
use Rattle.photo_record.specs.declared.record.Record.TheVariants as content
use Rattle.photo_filter_text.specs.declared.tree.Cmp.TheVariants.{AtLeast}
use Rattle.photo_filter_text.specs.Tree.{All, Rate, Not, Keyword, Both}
use Rattle.photo_version.specs.Author.{author, author_at}
use Rattle.photo_version.specs.Version.{version}
use Rattle.fleet_model.specs.Contents.{Contents, contents}
use Rattle.fleet_model.specs.declared.command.Command.{Command}
use Rattle.fleet_model.specs.declared.command.Command.TheVariants as command
use Rattle.script_reader.specs.Earlier.{Earlier}
use Rattle.script_reader.specs.Saying.{said}
use Rattle.script_reader.specs.Reading.{script_of}
use Rattle.script_reader.specs.declared.fault.LineFault.TheVariants as fault
use Rattle.script_reader.specs.declared.fault.ScriptFault.TheVariants.{Line, NotUtf8}

pub record SingleFaults : Type 0 where
  pub empty : script_of [] ≡ Ok (contents [] [] [])
  pub not_utf8 : script_of (0xff ∷ []) ≡ Err NotUtf8
  pub command : script_of (codes "frob") ≡ Err (Line 1 fault.UnknownCommand)
  pub fields : script_of (codes "device a all\nnew a 7") ≡ Err (Line 2 fault.WrongFields)
  pub name : script_of (codes "device A all") ≡ Err (Line 1 fault.BadName)
  pub device : script_of (codes "list b") ≡ Err (Line 1 fault.UnknownDevice)
  pub repeated : script_of (codes "device a all\ndevice a all") ≡ Err (Line 2 fault.RepeatedDevice)
  pub late : script_of (codes "device a all\nlist a\ndevice b all") ≡ Err (Line 3 fault.LateDevice)
  pub number : script_of (codes "device a all\nnew a 07 5 2024-01-01 -") ≡ Err (Line 2 fault.BadNumber)
  pub rating : script_of (codes "device a all\nnew a 7 6 2024-01-01 -") ≡ Err (Line 2 fault.BadRating)
  pub date : script_of (codes "device a all\nnew a 7 5 2023-02-29 -") ≡ Err (Line 2 fault.BadDate)
  pub words : script_of (codes "device a all\nnew a 7 5 2024-01-01 x,x") ≡ Err (Line 2 fault.BadKeyword)
  pub filter : script_of (codes "device a rating >= 6") ≡ Err (Line 1 fault.BadFilter)
  pub picture : script_of (codes "device a all\nnew a 7 5 2024-01-01 -\nnew a 7 5 2024-01-01 -") ≡ Err (Line 3 fault.RepeatedPicture)

-- the first of two faults
pub record TwoFaults : Type 0 where
  pub late : script_of (codes "device a all\nlist a\ndevice b") ≡ Err (Line 3 fault.LateDevice)
  pub device : script_of (codes "device a all\nnew b 7 9 2024-01-01 -") ≡ Err (Line 2 fault.UnknownDevice)
  pub repeated : script_of (codes "device a all\nnew a 7 5 2024-01-01 -\nnew b 7 5 2024-01-01 -") ≡ Err (Line 3 fault.UnknownDevice)
  pub line : script_of (codes "frob\nlist") ≡ Err (Line 1 fault.UnknownCommand)

-- the ends of lines, and the separators of fields
pub record LinesAndFields : Type 0 where
  pub returns : script_of (codes "device a all\r\nlist a\r") ≡ Ok (contents (codes "a" ∷ []) (All ∷ []) (command.List 0 ∷ []))
  pub two_returns : script_of (codes "device a all\nlist a\r\r\n") ≡ Err (Line 2 fault.UnknownDevice)
  pub spaces : script_of (codes "\n  device   a  all  \n# list b\n   list a") ≡ Ok (contents (codes "a" ∷ []) (All ∷ []) (command.List 0 ∷ []))
  pub tab : script_of (codes "device\ta all") ≡ Err (Line 1 fault.UnknownCommand)

-- a filter is the text of its line from the third field on
pub record Filters : Type 0 where
  pub rating : script_of (codes "device frame rating >= 4") ≡ Ok (contents (codes "frame" ∷ []) (Rate AtLeast 4 ∷ []) [])
  pub brackets : script_of (codes " device  a  not(keyword x)and all ") ≡ Ok (contents (codes "a" ∷ []) (Both (Not (Keyword (codes "x"))) All ∷ []) [])
  pub two : script_of (codes "device a all\ndevice b rating >= 4\nlist b") ≡ Ok (contents (codes "a" ∷ codes "b" ∷ []) (All ∷ Rate AtLeast 4 ∷ []) (command.List 1 ∷ []))
  pub more : script_of (codes "device a all all") ≡ Err (Line 1 fault.BadFilter)
  pub bracket : script_of (codes "device a (") ≡ Err (Line 1 fault.BadFilter)
  pub name : script_of (codes "device A rating >= 6") ≡ Err (Line 1 fault.BadName)
  pub repeated : script_of (codes "device a all\ndevice a rating >= 6") ≡ Err (Line 2 fault.RepeatedDevice)

-- later versions of a picture, by `edit` and `remove`. Only `new` is refused for a picture that an earlier line makes
pub record Changes : Type 0 where
  pub edit : script_of (codes "device a all\nedit a 7 5 2024-01-01 x\nnew a 7 5 2024-01-01 x\nedit a 7 4 2024-01-01 -\nremove a 7\nremove a 7")
      ≡ Ok (contents (codes "a" ∷ []) (All ∷ [])
      (command.Edit 0 7 (content.Picture 5 (pos 19_723) (codes "x" ∷ [])) ∷ command.New 0 7 (content.Picture 5 (pos 19_723) (codes "x" ∷ []))
      ∷ command.Edit 0 7 (content.Picture 4 (pos 19_723) []) ∷ command.Remove 0 7 ∷ command.Remove 0 7 ∷ []))
  pub few : script_of (codes "device a all\nedit a 7 5 2024-01-01") ≡ Err (Line 2 fault.WrongFields)
  pub many : script_of (codes "device a all\nremove a 7 5") ≡ Err (Line 2 fault.WrongFields)
  pub device : script_of (codes "device a all\nedit b 0 6 x x") ≡ Err (Line 2 fault.UnknownDevice)
  pub number : script_of (codes "device a all\nremove a 07") ≡ Err (Line 2 fault.BadNumber)
  pub rating : script_of (codes "device a all\nedit a 7 6 x x,x") ≡ Err (Line 2 fault.BadRating)

-- two devices without filters
abbrev pub pair : List Command → Contents
pair commands = contents (codes "a" ∷ codes "b" ∷ []) (All ∷ All ∷ []) commands

-- a question may name a picture and a version that no line makes
pub record Questions : Type 0 where
  pub asked : script_of (codes "device a all\ndevice b all\nknowledge b\nknows a 7 b:100000\nknows b 999999999 a:1")
      ≡ Ok (pair (command.Knowledge 1 ∷ command.Knows 0 7 (version (author 1) 100_000) ∷ command.Knows 1 999_999_999 (version (author 0) 1) ∷ []))
  pub number : script_of (codes "device a all\nknows a 7 a:100001") ≡ Err (Line 2 fault.BadNumber)
  pub zero : script_of (codes "device a all\nknows a 7 a:0") ≡ Err (Line 2 fault.BadNumber)
  pub leading_zero : script_of (codes "device a all\nknows a 7 a:01") ≡ Err (Line 2 fault.BadNumber)
  pub two_colons : script_of (codes "device a all\nknows a 7 a:1:1") ≡ Err (Line 2 fault.BadNumber)
  pub no_colon : script_of (codes "device a all\nknows a 7 a1") ≡ Err (Line 2 fault.BadNumber)
  pub name_first : script_of (codes "device a all\nknows a 7 b:x") ≡ Err (Line 2 fault.UnknownDevice)
  pub no_name : script_of (codes "device a all\nknows a 7 :1") ≡ Err (Line 2 fault.UnknownDevice)
  pub device_first : script_of (codes "device a all\nknows b 0 a:0") ≡ Err (Line 2 fault.UnknownDevice)
  pub picture_second : script_of (codes "device a all\nknows a 0 b") ≡ Err (Line 2 fault.BadNumber)
  pub few : script_of (codes "device a all\nknows a 7") ≡ Err (Line 2 fault.WrongFields)
  pub many : script_of (codes "device a all\nknows a 7 a:1 a:2") ≡ Err (Line 2 fault.WrongFields)
  pub whose : script_of (codes "device a all\nknowledge b") ≡ Err (Line 2 fault.UnknownDevice)
  pub none : script_of (codes "device a all\nknowledge") ≡ Err (Line 2 fault.WrongFields)
  pub both : script_of (codes "device a all\nknowledge a a") ≡ Err (Line 2 fault.WrongFields)

-- versions of later epochs: accepted ones, refused ones, and their texts
pub record LaterEpochs : Type 0 where
  pub asked : script_of (codes "device a all\nknows a 7 a.1:1\nknows a 7 a.100000:100000")
      ≡ Ok (contents (codes "a" ∷ []) (All ∷ []) (command.Knows 0 7 (version (author_at 0 1) 1) ∷ command.Knows 0 7 (version (author_at 0 100_000) 100_000) ∷ []))
  pub first_given : script_of (codes "device a all\nknows a 7 a.0:1") ≡ Err (Line 2 fault.BadNumber)
  pub leading_zero : script_of (codes "device a all\nknows a 7 a.01:1") ≡ Err (Line 2 fault.BadNumber)
  pub no_epoch : script_of (codes "device a all\nknows a 7 a.:1") ≡ Err (Line 2 fault.BadNumber)
  pub no_colon : script_of (codes "device a all\nknows a 7 a.1") ≡ Err (Line 2 fault.BadNumber)
  pub too_late : script_of (codes "device a all\nknows a 7 a.100001:1") ≡ Err (Line 2 fault.BadNumber)
  pub two_dots : script_of (codes "device a all\nknows a 7 a.1.2:3") ≡ Err (Line 2 fault.BadNumber)
  pub no_number : script_of (codes "device a all\nknows a 7 a.1:0") ≡ Err (Line 2 fault.BadNumber)
  pub name_first : script_of (codes "device a all\nknows a 7 b.0:0") ≡ Err (Line 2 fault.UnknownDevice)
  pub no_name : script_of (codes "device a all\nknows a 7 .1:1") ≡ Err (Line 2 fault.UnknownDevice)

-- a pull, and a change of a filter, whose text is the line from the third field on
pub record Moves : Type 0 where
  pub moved : script_of (codes "device a all\ndevice b all\npull a b\n narrow  b  rating >= 4 \nconflicts b")
      ≡ Ok (pair (command.Pull 0 1 ∷ command.Narrow 1 (Rate AtLeast 4) ∷ command.Conflicts 1 ∷ []))
  pub itself : script_of (codes "device a all\npull a a") ≡ Err (Line 2 fault.SameDevice)
  pub target : script_of (codes "device a all\npull b a") ≡ Err (Line 2 fault.UnknownDevice)
  pub source : script_of (codes "device a all\npull a b") ≡ Err (Line 2 fault.UnknownDevice)
  pub neither : script_of (codes "device a all\npull b b") ≡ Err (Line 2 fault.UnknownDevice)
  pub few : script_of (codes "device a all\npull a") ≡ Err (Line 2 fault.WrongFields)
  pub many : script_of (codes "device a all\npull a a a") ≡ Err (Line 2 fault.WrongFields)
  pub filter : script_of (codes "device a all\nnarrow a rating >= 6") ≡ Err (Line 2 fault.BadFilter)
  pub device_first : script_of (codes "device a all\nnarrow b rating >= 6") ≡ Err (Line 2 fault.UnknownDevice)
  pub no_filter : script_of (codes "device a all\nnarrow a") ≡ Err (Line 2 fault.WrongFields)
  pub whose : script_of (codes "device a all\nconflicts b") ≡ Err (Line 2 fault.UnknownDevice)
  pub none : script_of (codes "device a all\nconflicts") ≡ Err (Line 2 fault.WrongFields)
  pub late : script_of (codes "device a all\nconflicts a\ndevice b all") ≡ Err (Line 3 fault.LateDevice)

-- `preview` has the fields of `pull`, and `refilter` those of `narrow`
pub record OtherMoves : Type 0 where
  pub previewed : script_of (codes "device a all\ndevice b all\npreview a b\nlist a\npreview b a")
      ≡ Ok (pair (command.Preview 0 1 ∷ command.List 0 ∷ command.Preview 1 0 ∷ []))
  pub itself : script_of (codes "device a all\npreview a a") ≡ Err (Line 2 fault.SameDevice)
  pub source : script_of (codes "device a all\npreview a b") ≡ Err (Line 2 fault.UnknownDevice)
  pub neither : script_of (codes "device a all\npreview b b") ≡ Err (Line 2 fault.UnknownDevice)
  pub few : script_of (codes "device a all\npreview a") ≡ Err (Line 2 fault.WrongFields)
  pub many : script_of (codes "device a all\npreview a a a") ≡ Err (Line 2 fault.WrongFields)
  pub refiltered : script_of (codes "device a all\ndevice b all\n refilter  b  not rating >= 4 \nlist b")
      ≡ Ok (pair (command.Refilter 1 (Not (Rate AtLeast 4)) ∷ command.List 1 ∷ []))
  pub filter : script_of (codes "device a all\nrefilter a rating >= 6") ≡ Err (Line 2 fault.BadFilter)
  pub device_first : script_of (codes "device a all\nrefilter b rating >= 6") ≡ Err (Line 2 fault.UnknownDevice)
  pub no_filter : script_of (codes "device a all\nrefilter a") ≡ Err (Line 2 fault.WrongFields)
  pub late : script_of (codes "device a all\nrefilter a none\ndevice b all") ≡ Err (Line 3 fault.LateDevice)

-- the context after lines that declare so many devices, all of one name
abbrev pub declared : ℕ → Earlier
declared count = record { names = replicate count (codes "d"); makes = λ p. false; commands = 0 }

-- the 65th and the 256th declaration are accepted, and the 257th is one too many, whatever its name and filter. A fault of its
-- fields is found first
pub record ManyDevices : Type 0 where
  pub more : said (declared 64) (codes "device e all") ≡ Ok None
  pub last : said (declared 255) (codes "device e all") ≡ Ok None
  pub repeated : said (declared 255) (codes "device d all") ≡ Err fault.RepeatedDevice
  pub too_many : said (declared 256) (codes "device e all") ≡ Err fault.TooMany
  pub too_many_names : said (declared 256) (codes "device D rating >= 6") ≡ Err fault.TooMany
  pub fields : said (declared 256) (codes "device e") ≡ Err fault.WrongFields
