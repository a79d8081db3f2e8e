-- Reports, and their texts.
use Rattle.std.specs.Prelude.{◌≡◌, ℕ, ◌+◌, ◌<◌, Bool, true, if◌then◌else◌, List, [], ◌∷◌, ◌++◌, length, map, codes, slice_index_or}
use Rattle.std.specs.Fmt.{decimal}
use Rattle.std.specs.List.{AllByRecursion, flat_map, join_with_byte}
use Rattle.photo_record.specs.Showing.{record_text}
use Rattle.photo_model.specs.Entry.{Entry}
use Rattle.photo_device.specs.Held.{entries_of}
use Rattle.photo_version.specs.Author.{Author, device_of_author, epoch_of_author, author_of_word}
use Rattle.photo_version.specs.Showing.{epoch_text}
use Rattle.photo_version.specs.Version.{Version, Versions, version}
use Rattle.item_knowledge.specs.Entries as knowledge
use Rattle.item_knowledge.specs.Fragments.{Fragment, knows, is_normal}
use Rattle.photo_model.specs.Conflicts.{Conflict}
use Rattle.photo_model.specs.declared.place.Place.{Place}
use Rattle.photo_model.specs.declared.place.Place.TheVariants as place
use Rattle.photo_model.specs.declared.counts.PullCounts.{PullCounts}
use Rattle.fleet_model.specs.Contents.{Contents}
use Rattle.fleet_model.specs.Answers.{RightAnswer, Made, NotHeld, NotNarrower, Narrowed, Refiltered, Pulled, Preview, Listed, Conflicts, Knows, ModelReport, Exactly, KnowledgeIs}
use Rattle.photo_script.specs.declared.report.Report.{Report}
use Rattle.photo_script.specs.declared.report.Report.TheVariants as report

-- the answer to a command; a knowledge is given by its fragments
pub data Answer : Type 0 where
  Plain : RightAnswer → Answer
  KnowledgeOf : ℕ → List Fragment → Answer

-- the answer that a report stands for
abbrev pub answer_of : Report → Answer
answer_of (report.Made v p) = Plain (Made v p)
answer_of report.NotHeld = Plain NotHeld
answer_of report.NotNarrower = Plain NotNarrower
answer_of (report.Narrowed count) = Plain (Narrowed count)
answer_of (report.Refiltered stored waiting) = Plain (Refiltered stored waiting)
answer_of (report.Pulled counts) = Plain (Pulled counts)
answer_of (report.Preview counts) = Plain (Preview counts)
answer_of (report.Listed n store out) = Plain (Listed n (entries_of store) (entries_of out))
answer_of (report.Conflicts n pictures) = Plain (Conflicts n pictures)
answer_of (report.KnowledgeOf n knowledge) = KnowledgeOf n knowledge.value.known
answer_of (report.Knows known) = Plain (Knows known)

-- the answer gives the device's knowledge, in normal form
pub record TellsKnowledge (answer : Answer) (device : ℕ) (known : ℕ → Versions) : Type 0 where
  pub fragments : List Fragment
  pub given : answer ≡ KnowledgeOf device fragments
  pub normal : is_normal fragments ≡ true
  pub denoted : (picture : ℕ) → 0 < picture → (v : Version) → knows fragments picture v ≡ known picture v

-- the answer is right for the model report; there is at most one such answer
abbrev pub Tells : Answer → ModelReport → Type 0
Tells answer (Exactly right) = answer ≡ Plain right
Tells answer (KnowledgeIs device known) = TellsKnowledge answer device known

-- the version's author is a device of the script
abbrev pub IsOfScript : Contents → Version → Type 0
IsOfScript script v = device_of_author v.author < length script.names

abbrev pub AreOfScript : Contents → List Entry → Type 0
AreOfScript script entries = AllByRecursion (λ e. IsOfScript script e.version) entries

-- the author of each bound in the fragment is a device of the script
abbrev pub IsFragmentOfScript : Contents → Fragment → Type 0
IsFragmentOfScript script f = AllByRecursion (λ e. device_of_author (author_of_word e.0) < length script.names) f.entries

-- the author of each version in the conflict is a device of the script
abbrev pub IsConflictOfScript : Contents → Conflict → Type 0
IsConflictOfScript script c = AllByRecursion (IsOfScript script) c.versions

abbrev pub AreConflictsOfScript : Contents → List Conflict → Type 0
AreConflictsOfScript script pictures = AllByRecursion (IsConflictOfScript script) pictures

-- all authors and devices in the answer are devices of the script
abbrev pub IsAbout : Contents → Answer → Type 0
IsAbout script (Plain (Made v p)) = IsOfScript script v
IsAbout script (Plain NotHeld) = Unit {0}
IsAbout script (Plain NotNarrower) = Unit {0}
IsAbout script (Plain (Narrowed count)) = Unit {0}
IsAbout script (Plain (Refiltered stored waiting)) = Unit {0}
IsAbout script (Plain (Pulled counts)) = Unit {0}
IsAbout script (Plain (Preview counts)) = Unit {0}
IsAbout script (Plain (Listed n store out)) = (n < length script.names) × AreOfScript script store × AreOfScript script out
IsAbout script (Plain (Conflicts n pictures)) = (n < length script.names) × AreConflictsOfScript script pictures
IsAbout script (KnowledgeOf n fragments) = (n < length script.names) × AllByRecursion (IsFragmentOfScript script) fragments
IsAbout script (Plain (Knows known)) = Unit {0}

-- the name of a device, by its place in order of declaration
abbrev pub name_of : Contents → ℕ → List ℕ
name_of script device = slice_index_or script.names device []

-- the device's name, and its epoch unless that is 0
abbrev pub author_text : Contents → Author → List ℕ
author_text script a = name_of script (device_of_author a) ++ epoch_text (epoch_of_author a)

-- the author, a colon and the version's number
abbrev pub version_text : Contents → Version → List ℕ
version_text script v = author_text script v.author ++ codes ":" ++ decimal v.number

abbrev pub place_text : Place → List ℕ
place_text place.Store = codes "store"
place_text place.Out = codes "out"

-- the line of a held version
abbrev pub entry_text : Contents → Place → Entry → List ℕ
entry_text script where_ e =
    codes "  " ++ place_text where_ ++ codes " " ++ decimal e.picture ++ codes " " ++ version_text script e.version
    ++ codes " " ++ record_text e.content ++ codes "\n"

abbrev pub entries_text : Contents → Place → List Entry → List ℕ
entries_text script where_ entries = flat_map (entry_text script where_) entries

-- The texts of answers, without the number of their command

abbrev pub made_text : Contents → Version → Place → List ℕ
made_text script v where_ = codes "made " ++ version_text script v ++ codes " " ++ place_text where_ ++ codes "\n"

abbrev pub not_held_text : List ℕ
not_held_text = codes "refused C1 NotHeld\n"

-- the first line of a list, with the numbers of versions in the store and in the out
abbrev pub heading_text : Contents → ℕ → ℕ → ℕ → List ℕ
heading_text script device stored waiting =
    codes "list " ++ name_of script device ++ codes " store " ++ decimal stored ++ codes " out " ++ decimal waiting ++ codes "\n"

abbrev pub listed_text : Contents → ℕ → List Entry → List Entry → List ℕ
listed_text script device store out =
    heading_text script device (length store) (length out)
    ++ entries_text script place.Store store ++ entries_text script place.Out out

-- the pictures of a fragment, separated by commas, or `*` for the star
abbrev pub pictures_text : List ℕ → List ℕ
pictures_text [] = codes "*"
pictures_text (p ∷ ps) = join_with_byte 44 (map decimal (p ∷ ps))

-- a bound: the author's last known version
abbrev pub bound_text : Contents → knowledge.Entry → List ℕ
bound_text script e = version_text script (version (author_of_word e.0) e.1)

-- the bounds separated by spaces, or `-` if there are none
abbrev pub bounds_text : Contents → List knowledge.Entry → List ℕ
bounds_text script [] = codes "-"
bounds_text script (e ∷ es) = join_with_byte 32 (map (bound_text script) (e ∷ es))

-- the line of a fragment
abbrev pub fragment_text : Contents → Fragment → List ℕ
fragment_text script f = codes "  " ++ pictures_text f.pictures ++ codes " " ++ bounds_text script f.entries ++ codes "\n"

-- the first line of a report on a device: its subject, and the number of lines that follow
abbrev pub counted_heading_text : Contents → List ℕ → ℕ → ℕ → List ℕ
counted_heading_text script what device count =
    what ++ name_of script device ++ codes " " ++ decimal count ++ codes "\n"

-- the report on a device's knowledge: a heading, and a line for each fragment
abbrev pub knowledge_text : Contents → ℕ → List Fragment → List ℕ
knowledge_text script device fragments =
    counted_heading_text script (codes "knowledge ") device (length fragments) ++ flat_map (fragment_text script) fragments

abbrev pub yes_or_no : Bool → List ℕ
yes_or_no known = if known then codes "yes" else codes "no"

abbrev pub knows_text : Bool → List ℕ
knows_text known = codes "knows " ++ yes_or_no known ++ codes "\n"

abbrev pub not_narrower_text : List ℕ
not_narrower_text = codes "refused C2 NotNarrower\n"

-- the report on a narrowing, with the number of versions moved to the out
abbrev pub narrowed_text : ℕ → List ℕ
narrowed_text count = codes "narrowed " ++ decimal count ++ codes "\n"

-- the report on a refiltering, with the numbers of versions in the store and in the out
abbrev pub refiltered_text : ℕ → ℕ → List ℕ
refiltered_text stored waiting =
    codes "refiltered store " ++ decimal stored ++ codes " out " ++ decimal waiting ++ codes "\n"

-- the counts of a pull after a word that ends with a space
abbrev pub counts_text : List ℕ → PullCounts → List ℕ
counts_text word counts =
    word ++ codes "taken " ++ decimal counts.taken ++ codes " handed " ++ decimal counts.handed
    ++ codes " notices " ++ decimal counts.notices ++ codes " dropped " ++ decimal counts.dropped
    ++ codes " learned " ++ yes_or_no counts.learned ++ codes "\n"

-- the report on a pull
abbrev pub pulled_text : PullCounts → List ℕ
pulled_text counts = counts_text (codes "pulled ") counts

-- the report on a preview
abbrev pub preview_text : PullCounts → List ℕ
preview_text counts = counts_text (codes "preview ") counts

-- the versions, each behind a space
abbrev pub versions_text : Contents → List Version → List ℕ
versions_text script versions = flat_map (λ v. codes " " ++ version_text script v) versions

-- the line of a conflict
abbrev pub conflict_text : Contents → Conflict → List ℕ
conflict_text script c = codes "  " ++ decimal c.picture ++ versions_text script c.versions ++ codes "\n"

-- the report on conflicts: a heading, and a line for each picture
abbrev pub conflicts_text : Contents → ℕ → List Conflict → List ℕ
conflicts_text script device pictures =
    counted_heading_text script (codes "conflicts ") device (length pictures) ++ flat_map (conflict_text script) pictures

-- the text of an answer, without the number of its command
abbrev pub unnumbered_text : Contents → Answer → List ℕ
unnumbered_text script (Plain (Made v where_)) = made_text script v where_
unnumbered_text script (Plain NotHeld) = not_held_text
unnumbered_text script (Plain NotNarrower) = not_narrower_text
unnumbered_text script (Plain (Narrowed count)) = narrowed_text count
unnumbered_text script (Plain (Refiltered stored waiting)) = refiltered_text stored waiting
unnumbered_text script (Plain (Pulled counts)) = pulled_text counts
unnumbered_text script (Plain (Preview counts)) = preview_text counts
unnumbered_text script (Plain (Listed n store out)) = listed_text script n store out
unnumbered_text script (Plain (Conflicts n pictures)) = conflicts_text script n pictures
unnumbered_text script (KnowledgeOf n fragments) = knowledge_text script n fragments
unnumbered_text script (Plain (Knows known)) = knows_text known

-- the text of an answer to the command of that number
unfoldable pub text_of : Contents → ℕ → Answer → List ℕ
text_of script number answer = decimal number ++ codes " " ++ unnumbered_text script answer

-- the texts of the answers, numbered from n
abbrev pub texts_from : Contents → ℕ → List Answer → List ℕ
texts_from script n [] = []
texts_from script n (a ∷ more) = text_of script n a ++ texts_from script (n + 1) more
