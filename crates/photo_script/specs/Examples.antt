-- Worked reports, and a script with its reports.
use Rattle.std.specs.Prelude.{◌≡◌, ℕ, true, false, pos, List, [], ◌∷◌, Ok, codes}
use Rattle.photo_record.specs.declared.record.Record.{Record}
use Rattle.photo_record.specs.declared.record.Record.TheVariants as content
use Rattle.photo_filter_text.specs.declared.tree.Cmp.TheVariants.{AtLeast, AtMost}
use Rattle.photo_filter_text.specs.Tree.{All, Rate}
use Rattle.item_knowledge.specs.Entries as knowledge
use Rattle.photo_model.specs.Entry.{Entry}
use Rattle.photo_model.specs.Conflicts.{Conflict}
use Rattle.photo_version.specs.Author.{author, author_at, author_word}
use Rattle.photo_version.specs.Version.{Version, version}
use Rattle.photo_model.specs.declared.place.Place.TheVariants as place
use Rattle.fleet_model.specs.Contents.{Contents, contents}
use Rattle.script_reader.specs.Reading.{script_of}
use Rattle.script_reader.specs.Examples.{pair}
use Rattle.fleet_model.specs.Runs.{run}
use Rattle.fleet_model.specs.Tallies.{totals_of}
use Rattle.fleet_model.specs.declared.tally.Totals.{Totals}
use Rattle.item_knowledge.specs.Fragments.{Fragment}
use Rattle.fleet_model.specs.Answers.{Made, NotHeld, NotNarrower, Narrowed, Refiltered, Pulled, Preview, Listed, Conflicts, Knows}
use Rattle.photo_script.specs.Reports.{Plain, KnowledgeOf, text_of}
use Rattle.fleet_model.specs.declared.command.Command.TheVariants as command

-- the record of a picture of the beach
abbrev pub beach : Record
beach = content.Picture 5 (pos 19_844) (codes "beach" ∷ codes "sun" ∷ [])

-- a camera makes the picture and lists what it holds
abbrev pub camera : Contents
camera = contents (codes "cam" ∷ []) (All ∷ []) (command.New 0 7 beach ∷ command.List 0 ∷ [])

abbrev pub beach_entry : Entry
beach_entry = record { picture = 7; version = version (author 0) 1; history = λ v. false; content = beach }

pub record FirstRun : Type 0 where
  pub script : script_of (codes "device cam all\nnew cam 7 5 2024-05-01 sun,beach\nlist cam\n") ≡ Ok camera
  pub made : text_of camera 1 (Plain (Made (version (author 0) 1) place.Store)) ≡ codes "1 made cam:1 store\n"
  pub listed : text_of camera 2 (Plain (Listed 0 (beach_entry ∷ []) [])) ≡ codes "2 list cam store 1 out 0\n  store 7 cam:1 rating 5 day 2024-05-01 words beach,sun\n"

abbrev pub fragment : List ℕ → List knowledge.Entry → Fragment
fragment pictures entries = record { pictures = pictures; entries = entries }

-- the bound of a device in an epoch: an author with its last known version
abbrev pub bound : ℕ → ℕ → ℕ → knowledge.Entry
bound device epoch number = (author_word (author_at device epoch), number)

-- the knowledge of devices, one line for each fragment: nothing; four versions for every picture; more for two pictures and for
-- a third
pub record KnownTexts : Type 0 where
  pub nothing : text_of (pair []) 1 (KnowledgeOf 0 (fragment [] [] ∷ [])) ≡ codes "1 knowledge a 1\n  * -\n"
  pub star : text_of (pair []) 7 (KnowledgeOf 0 (fragment [] (bound 0 0 4 ∷ []) ∷ [])) ≡ codes "7 knowledge a 1\n  * a:4\n"
  pub groups : text_of (pair []) 5 (KnowledgeOf 1 (fragment [] (bound 0 0 1 ∷ []) ∷ fragment (7 ∷ 9 ∷ []) (bound 0 0 2 ∷ bound 1 0 1 ∷ []) ∷ fragment (8 ∷ []) (bound 0 0 3 ∷ []) ∷ []))
      ≡ codes "5 knowledge b 3\n  * a:1\n  7,9 a:2 b:1\n  8 a:3\n"
  pub known : text_of (pair []) 8 (Plain (Knows true)) ≡ codes "8 knows yes\n"
  pub unknown : text_of (pair []) 8 (Plain (Knows false)) ≡ codes "8 knows no\n"

pub record LaterEpochTexts : Type 0 where
  pub made : text_of camera 1 (Plain (Made (version (author_at 0 1) 3) place.Store)) ≡ codes "1 made cam.1:3 store\n"
  pub known : text_of (pair []) 9 (KnowledgeOf 0 (fragment [] (bound 0 0 2 ∷ bound 0 12 1 ∷ bound 1 0 1 ∷ []) ∷ [])) ≡ codes "9 knowledge a 1\n  * a:2 a.12:1 b:1\n"

abbrev pub conflict : ℕ → List Version → Conflict
conflict picture versions = record { picture = picture; versions = versions }

-- reports on a pull, a preview, a refiltering, a narrowing, a picture that isn't held, a filter that isn't narrower, and
-- conflicts
pub record MovedTexts : Type 0 where
  pub pulled : text_of (pair []) 5 (Plain (Pulled (record { taken = 1; handed = 0; notices = 0; dropped = 0; learned = true })))
      ≡ codes "5 pulled taken 1 handed 0 notices 0 dropped 0 learned yes\n"
  pub counted : text_of (pair []) 12 (Plain (Pulled (record { taken = 1; handed = 20; notices = 300; dropped = 4000; learned = false })))
      ≡ codes "12 pulled taken 1 handed 20 notices 300 dropped 4000 learned no\n"
  pub previewed : text_of (pair []) 12 (Plain (Preview (record { taken = 1; handed = 20; notices = 300; dropped = 4000; learned = true })))
      ≡ codes "12 preview taken 1 handed 20 notices 300 dropped 4000 learned yes\n"
  pub refiltered : text_of (pair []) 4 (Plain (Refiltered 10 2)) ≡ codes "4 refiltered store 10 out 2\n"
  pub narrowed : text_of (pair []) 3 (Plain (Narrowed 2)) ≡ codes "3 narrowed 2\n"
  pub not_held : text_of (pair []) 5 (Plain NotHeld) ≡ codes "5 refused C1 NotHeld\n"
  pub refused : text_of (pair []) 4 (Plain NotNarrower) ≡ codes "4 refused C2 NotNarrower\n"
  pub one : text_of (pair []) 6 (Plain (Conflicts 0 (conflict 7 (version (author 0) 2 ∷ version (author 1) 1 ∷ []) ∷ []))) ≡ codes "6 conflicts a 1\n  7 a:2 b:1\n"
  pub two : text_of (pair []) 9 (Plain (Conflicts 1 (conflict 7 (version (author 0) 2 ∷ version (author 1) 1 ∷ []) ∷ conflict 12 (version (author 0) 1 ∷ version (author 0) 3 ∷ version (author 1) 5 ∷ []) ∷ [])))
      ≡ codes "9 conflicts b 2\n  7 a:2 b:1\n  12 a:1 a:3 b:5\n"
  pub none : text_of (pair []) 6 (Plain (Conflicts 0 [])) ≡ codes "6 conflicts a 0\n"

-- two devices, whose filters don't cover each other, make versions of one picture and pull three times
abbrev pub two_versions : Contents
two_versions = contents (codes "a" ∷ codes "b" ∷ []) (Rate AtLeast 1 ∷ Rate AtMost 4 ∷ [])
    (command.New 0 7 (content.Picture 3 (pos 19_723) []) ∷ command.Pull 1 0 ∷ command.Edit 0 7 (content.Picture 4 (pos 19_723) [])
    ∷ command.Edit 1 7 (content.Picture 2 (pos 19_723) []) ∷ command.Pull 0 1 ∷ command.Conflicts 0 ∷ command.Knowledge 0
    ∷ command.Edit 0 7 (content.Picture 3 (pos 19_723) []) ∷ command.Pull 1 0 ∷ [])

-- a pull is handed a version that the source doesn't keep, and takes one that it keeps; an edit, a removal and a filter are
-- refused; and `knows` asks for a version that is never made
abbrev pub each_refused : Contents
each_refused = contents (codes "a" ∷ codes "b" ∷ []) (Rate AtLeast 4 ∷ All ∷ [])
    (command.New 0 1 (content.Picture 3 (pos 19_723) []) ∷ command.New 0 2 (content.Picture 5 (pos 19_723) []) ∷ command.Pull 1 0
    ∷ command.Edit 0 9 (content.Picture 5 (pos 19_723) []) ∷ command.Remove 1 9 ∷ command.Narrow 0 All ∷ command.List 0
    ∷ command.Knows 1 7 (version (author 0) 9) ∷ [])

-- a preview comes before and after a pull; then the target is refiltered and pulls again
abbrev pub told_and_refiltered : Contents
told_and_refiltered = contents (codes "a" ∷ codes "b" ∷ []) (All ∷ Rate AtLeast 4 ∷ [])
    (command.New 0 1 (content.Picture 5 (pos 19_723) []) ∷ command.New 0 2 (content.Picture 2 (pos 19_723) []) ∷ command.Preview 1 0
    ∷ command.Pull 1 0 ∷ command.Preview 1 0 ∷ command.Refilter 1 All ∷ command.Pull 1 0 ∷ command.List 1 ∷ [])

abbrev pub totals : ℕ → ℕ → ℕ → ℕ → Totals
totals changes pulls reports moved = record { changes = changes; pulls = pulls; reports = reports; moved = moved }

-- the commands of runs by kind, and the versions that their pulls moved
pub record Counts : Type 0 where
  pub empty : totals_of (contents [] [] []) (run (contents [] [] [])) ≡ totals 0 0 0 0
  pub silent : totals_of (pair []) (run (pair [])) ≡ totals 0 0 0 0
  pub first : totals_of camera (run camera) ≡ totals 1 0 1 0
  pub pulled : totals_of two_versions (run two_versions) ≡ totals 4 3 2 3
  pub refused : totals_of each_refused (run each_refused) ≡ totals 5 1 2 2
  pub told : totals_of told_and_refiltered (run told_and_refiltered) ≡ totals 3 2 3 2
