-- Worked examples of runs, from the bytes of a script to the bytes of its reports.
use Rattle.std.specs.Prelude.{◌≡◌, ℕ, List, [], ◌∷◌, ◌++◌, pos, Option, Ok, codes}
use Rattle.std.specs.Io.KnownBytes.{Appends}
use Rattle.photo_record.specs.declared.record.Record.TheVariants.{Picture}
use Rattle.photo_filter_text.specs.declared.tree.Cmp.TheVariants.{AtLeast, AtMost}
use Rattle.photo_filter_text.specs.Tree.{All, Rate, Keyword}
use Rattle.photo_version.specs.Author.{author, author_at}
use Rattle.photo_version.specs.Version.{version}
use Rattle.fleet_model.specs.declared.command.Command.TheVariants as command
use Rattle.fleet_model.specs.Contents.{Contents, contents}
use Rattle.script_reader.specs.Reading.{script_of}
use Rattle.fleet_model.specs.Runs.{run}
use Rattle.fleet_model.specs.Tallies.{totals_of}
use Rattle.photo_script.specs.Examples.{totals}
use Rattle.fleet_runner.specs.Outputs.{IsOutput, WritesOutput}

-- the text of a script
abbrev pub stored_text : List ℕ
stored_text = codes "device cam all\nnew cam 7 5 2024-05-01 sun,beach\nlist cam\n"

-- the script of that text: a camera, its picture with two words, and a list
abbrev pub stored_run : Contents
stored_run = contents (codes "cam" ∷ []) (All ∷ [])
    (command.New 0 7 (Picture 5 (pos 19844) (codes "beach" ∷ codes "sun" ∷ [])) ∷ command.List 0 ∷ [])

abbrev pub printed : List ℕ
printed = codes "1 made cam:1 store\n" ++ (codes "2 list cam store 1 out 0\n"
    ++ codes "  store 7 cam:1 rating 5 day 2024-05-01 words beach,sun\n")

-- A frame keeps pictures rated 4 or more. It makes one rated 3, and knows its version.
abbrev pub below_the_filter : Contents
below_the_filter = contents (codes "frame" ∷ []) (Rate AtLeast 4 ∷ [])
    (command.New 0 1 (Picture 3 (pos 19844) []) ∷ command.List 0 ∷ command.Knowledge 0 ∷ [])

abbrev pub printed_below : List ℕ
printed_below = codes "1 made frame:1 out\n" ++ (codes "2 list frame store 0 out 1\n"
    ++ (codes "  out 1 frame:1 rating 3 day 2024-05-01 words -\n" ++ (codes "3 knowledge frame 1\n" ++ codes "  * frame:1\n")))

-- One picture's versions are rated above and below the device's filter, removed and brought back. Another picture, of which the
-- device holds nothing, is removed. The device knows all versions that it made, of every picture, and no later ones.
abbrev pub changes : Contents
changes = contents (codes "a" ∷ []) (Rate AtLeast 2 ∷ [])
    (command.New 0 7 (Picture 5 (pos 19723) []) ∷ command.Edit 0 7 (Picture 1 (pos 19723) []) ∷ command.Remove 0 7
    ∷ command.Edit 0 7 (Picture 4 (pos 19723) []) ∷ command.Remove 0 9 ∷ command.List 0
    ∷ command.Knowledge 0 ∷ command.Knows 0 9 (version (author 0) 4) ∷ command.Knows 0 7 (version (author 0) 5) ∷ [])

abbrev pub printed_changes : List ℕ
printed_changes = codes "1 made a:1 store\n" ++ (codes "2 made a:2 out\n" ++ (codes "3 made a:3 out\n" ++ (codes "4 made a:4 store\n"
    ++ (codes "5 refused C1 NotHeld\n" ++ (codes "6 list a store 1 out 0\n"
    ++ (codes "  store 7 a:4 rating 4 day 2024-01-01 words -\n" ++ (codes "7 knowledge a 1\n" ++ (codes "  * a:4\n"
    ++ (codes "8 knows yes\n" ++ codes "9 knows no\n")))))))))

-- Two devices whose filters don't cover each other. Each makes a version of a picture that the other doesn't know, so after a
-- pull both versions are held. A version made with both supersedes them.
abbrev pub two_versions : Contents
two_versions = contents (codes "a" ∷ codes "b" ∷ []) (Rate AtLeast 1 ∷ Rate AtMost 4 ∷ [])
    (command.New 0 7 (Picture 3 (pos 19723) []) ∷ command.Pull 1 0 ∷ command.Edit 0 7 (Picture 4 (pos 19723) [])
    ∷ command.Edit 1 7 (Picture 2 (pos 19723) []) ∷ command.Pull 0 1 ∷ command.Conflicts 0 ∷ command.Knowledge 0
    ∷ command.Edit 0 7 (Picture 3 (pos 19723) []) ∷ command.Pull 1 0 ∷ [])

abbrev pub printed_two_versions : List ℕ
printed_two_versions = codes "1 made a:1 store\n" ++ (codes "2 pulled taken 1 handed 0 notices 0 dropped 0 learned no\n"
    ++ (codes "3 made a:2 store\n" ++ (codes "4 made b:1 store\n" ++ (codes "5 pulled taken 1 handed 0 notices 0 dropped 0 learned no\n"
    ++ (codes "6 conflicts a 1\n" ++ (codes "  7 a:2 b:1\n" ++ (codes "7 knowledge a 2\n" ++ (codes "  * a:2\n" ++ (codes "  7 a:2 b:1\n"
    ++ (codes "8 made a:3 store\n" ++ codes "9 pulled taken 1 handed 0 notices 0 dropped 1 learned no\n"))))))))))

-- With a narrower filter, versions that it doesn't select go to the out. A filter that isn't narrower is refused.
abbrev pub narrower : Contents
narrower = contents (codes "a" ∷ []) (Rate AtLeast 2 ∷ [])
    (command.New 0 1 (Picture 2 (pos 19723) []) ∷ command.New 0 2 (Picture 3 (pos 19723) []) ∷ command.New 0 3 (Picture 5 (pos 19723) [])
    ∷ command.Narrow 0 (Rate AtLeast 4) ∷ command.List 0 ∷ command.Narrow 0 (Rate AtLeast 3)
    ∷ command.Edit 0 9 (Picture 5 (pos 19723) []) ∷ command.Remove 0 1 ∷ [])

abbrev pub printed_narrower : List ℕ
printed_narrower = codes "1 made a:1 store\n" ++ (codes "2 made a:2 store\n" ++ (codes "3 made a:3 store\n" ++ (codes "4 narrowed 2\n"
    ++ (codes "5 list a store 1 out 2\n" ++ (codes "  store 3 a:3 rating 5 day 2024-01-01 words -\n"
    ++ (codes "  out 1 a:1 rating 2 day 2024-01-01 words -\n" ++ (codes "  out 2 a:2 rating 3 day 2024-01-01 words -\n"
    ++ (codes "6 refused C2 NotNarrower\n" ++ (codes "7 refused C1 NotHeld\n" ++ codes "8 made a:4 out\n")))))))))

-- A frame gets any filter and a fresh author. The next pull brings what it forgot, and its new version supersedes the one that
-- it held.
abbrev pub refilters : Contents
refilters = contents (codes "s" ∷ codes "f" ∷ []) (All ∷ Rate AtLeast 4 ∷ [])
    (command.New 0 7 (Picture 2 (pos 19723) []) ∷ command.New 0 8 (Picture 5 (pos 19723) []) ∷ command.Pull 1 0
    ∷ command.Refilter 1 All ∷ command.Knows 1 7 (version (author 0) 1) ∷ command.Pull 1 0 ∷ command.Edit 1 7 (Picture 3 (pos 19723) [])
    ∷ command.Knows 0 7 (version (author_at 1 1) 1) ∷ command.Pull 0 1 ∷ command.List 0 ∷ command.Refilter 1 (Rate AtLeast 4)
    ∷ command.Edit 1 8 (Picture 5 (pos 19723) []) ∷ [])

abbrev pub printed_refilters : List ℕ
printed_refilters = codes "1 made s:1 store\n" ++ (codes "2 made s:2 store\n"
    ++ (codes "3 pulled taken 1 handed 0 notices 0 dropped 0 learned yes\n" ++ (codes "4 refiltered store 1 out 0\n" ++ (codes "5 knows no\n"
    ++ (codes "6 pulled taken 1 handed 0 notices 0 dropped 0 learned yes\n" ++ (codes "7 made f.1:1 store\n" ++ (codes "8 knows no\n"
    ++ (codes "9 pulled taken 1 handed 0 notices 0 dropped 1 learned yes\n" ++ (codes "10 list s store 2 out 0\n"
    ++ (codes "  store 7 f.1:1 rating 3 day 2024-01-01 words -\n" ++ (codes "  store 8 s:2 rating 5 day 2024-01-01 words -\n"
    ++ (codes "11 refiltered store 1 out 1\n" ++ codes "12 made f.2:1 store\n"))))))))))))

-- a preview reports what the next pull counts, and moves nothing
abbrev pub previews : Contents
previews = contents (codes "cam" ∷ codes "frame" ∷ []) (All ∷ Rate AtLeast 4 ∷ [])
    (command.New 0 1 (Picture 5 (pos 19723) []) ∷ command.New 0 2 (Picture 2 (pos 19723) []) ∷ command.Preview 1 0 ∷ command.Pull 1 0
    ∷ command.Preview 1 0 ∷ command.List 1 ∷ [])

abbrev pub printed_previews : List ℕ
printed_previews = codes "1 made cam:1 store\n" ++ (codes "2 made cam:2 store\n"
    ++ (codes "3 preview taken 1 handed 0 notices 0 dropped 0 learned yes\n" ++ (codes "4 pulled taken 1 handed 0 notices 0 dropped 0 learned yes\n"
    ++ (codes "5 preview taken 0 handed 0 notices 0 dropped 0 learned yes\n" ++ (codes "6 list frame store 1 out 0\n"
    ++ codes "  store 1 cam:1 rating 5 day 2024-01-01 words -\n")))))

-- a version that is never made is never known
abbrev pub never_made : Contents
never_made = contents (codes "cam" ∷ codes "b" ∷ []) (All ∷ All ∷ []) (command.Knows 1 7 (version (author 0) 100000) ∷ [])

-- a letter with an accent, in form C
abbrev pub accented : List ℕ
accented = 0xc3 ∷ 0xa9 ∷ []

-- a device that keeps pictures with the word
abbrev pub with_the_word : Contents
with_the_word = contents (codes "a" ∷ []) (Keyword accented ∷ [])
    (command.New 0 1 (Picture 0 (pos 19782) (accented ∷ [])) ∷ command.List 0 ∷ [])

abbrev pub printed_word : List ℕ
printed_word = codes "1 made a:1 store\n" ++ (codes "2 list a store 1 out 0\n"
    ++ (codes "  store 1 a:1 rating 0 day 2024-02-29 words " ++ (accented ++ codes "\n")))

pub record AreAsTold : Type 0 where
  pub read : script_of stored_text ≡ Ok stored_run
  pub stored : IsOutput stored_run printed
  pub bytes : (old new : Option (List ℕ)) → WritesOutput old new stored_text → Appends old new printed
  pub below : IsOutput below_the_filter printed_below
  pub word : IsOutput with_the_word printed_word
  pub changed : IsOutput changes printed_changes
  pub conflict : IsOutput two_versions printed_two_versions
  pub narrowed : IsOutput narrower printed_narrower
  pub refiltered : IsOutput refilters printed_refilters
  pub refiltered_totals : totals_of refilters (run refilters) ≡ totals 6 3 3 3
  pub previewed : IsOutput previews printed_previews
  pub previewed_totals : totals_of previews (run previews) ≡ totals 2 1 3 1
  pub unknown : IsOutput never_made (codes "1 knows no\n")
  pub empty : IsOutput (contents [] [] []) []
  pub silent : IsOutput (contents (codes "a" ∷ []) (All ∷ []) []) []
  pub empty_totals : totals_of (contents [] [] []) (run (contents [] [] [])) ≡ totals 0 0 0 0
  pub silent_totals : totals_of (contents (codes "a" ∷ []) (All ∷ []) []) (run (contents (codes "a" ∷ []) (All ∷ []) [])) ≡ totals 0 0 0 0
