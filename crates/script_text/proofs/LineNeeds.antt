-- What must hold of a printed line that reads as its command.
use Rattle.std.proofs.Common.{◌≡◌, ◌≢◌, inl, inr, ℕ, ℤ, ◌+◌, ◌*◌, ◌/◌, ◌%◌, ◌<◌, ◌≤◌, Bool, true, false, cond, not, ◌&&◌, eqb, ltb, leb, List, [], ◌∷◌, ◌++◌, length, Option, Some, None, Result, Ok, codes, refl, sym, ap, subst, ◌∙◌, arith}
use Rattle.std.specs.Prelude.{IfSome}
use Rattle.std.specs.Fmt.{decimal}
use Rattle.std.specs.List.{AllByRecursion, join_with_byte, position_or_len}
use Rattle.std.specs.Option.{is_some}
use Rattle.std.specs.Str.{bytes_eq}
use Rattle.std.proofs.lemmas.Bool.{and_parts, leb-true, ltb-true, cases_lt, cond-true, cond-false}
use Rattle.std.proofs.lemmas.List.{get_or_past}
use Rattle.std.proofs.lemmas.List.Elements.{All-nil}
use Rattle.photo_record.specs.Limits.{IsPicNo, IsDay, max_rating}
use Rattle.photo_record.specs.Word.{IsWord}
use Rattle.photo_record.specs.declared.record.Record.{Record}
use Rattle.photo_record.specs.declared.record.Record.TheVariants as content
use Rattle.photo_filter_text.specs.Grammar.{term, factor}
use Rattle.photo_filter_text.specs.Tree.{Tree}
use Rattle.photo_filter_text.specs.Printed.{◌␣◌, text_of, date_text, IsSound}
use Rattle.photo_filter_text.proofs.Complete.{one-tree}
use Rattle.photo_filter_text.proofs.PrintedAgain.{printed}
use Rattle.photo_filter_rules.specs.Filters.{IsFilterOf, filter_of}
use Rattle.photo_filter_rules.specs.Matching.{IsInRange}
use Rattle.photo_filter_rules.proofs.Found.{found}
use Rattle.photo_version.specs.Author.{Author, author, author_at, device_of_author, epoch_of_author}
use Rattle.photo_version.specs.Version.{Version, version}
use Rattle.fleet_model.specs.Contents.{Contents, IsWithin, record_of}
use Rattle.script_reader.specs.Earlier.{Earlier}
use Rattle.script_reader.specs.Fields.{is_name, place_of, is_decimal, number_of, cut_at_colon, cut_at_dot, epoch_of, is_epoch, version_number_of, is_version_number}
use Rattle.fleet_model.specs.Limits.{max_devices, max_commands}
use Rattle.script_reader.specs.Limits.{max_epoch, max_version}
use Rattle.script_reader.specs.Lines.{fields_of, third_field_on, is_not_empty}
use Rattle.photo_record.specs.Showing.{words_text}
use Rattle.photo_version.specs.Showing.{epoch_text}
use Rattle.photo_script.specs.Reports.{name_of, version_text}
use Rattle.script_reader.specs.Saying.{or_fault, device_said, picture_said, new_picture_said, record_said, filter_said, declaration_said, device_line_said, command_said, creation_said, new_line_said, edition_said, edit_line_said, filtering_said, device_and_filter_said, narrow_line_said, refilter_line_said, author_said, version_said, question_said, knows_line_said, question_line_said, command_line_said, fields_said, said}
use Rattle.fleet_model.specs.declared.command.Command.{Command}
use Rattle.fleet_model.specs.declared.command.Command.TheVariants as command
use Rattle.script_reader.specs.declared.fault.LineFault.TheVariants as fault
use Rattle.script_text.specs.Laws.{HasTyped}
use Rattle.script_text.specs.Texts.{line_of_command, line_of_device}
use Rattle.script_text.specs.Printable.{FitsVersion, FitsCommand, AreWords, HasWords, HasValues}
use Rattle.script_text.specs.Parts.{FitsDevice}
use Rattle.script_text.proofs.Accepting.{bound, passed, denoted, some_if, line-parts}
use Rattle.script_text.proofs.Bytes.{is_from, from-append, from-cons}
use Rattle.script_text.proofs.Cuts.{IsField, fields-joined, joined-from, field-first, third-on, some-append, some-cons}
use Rattle.script_text.proofs.Digits.{decimal-field}
use Rattle.script_text.proofs.FilterBytes.{date-field, filter-plain, filter-begins}
use Rattle.script_text.proofs.NameBytes.{name-at, name-field}
use Rattle.script_text.proofs.Saying.{are-spelt, record-said}
use Rattle.script_text.proofs.Wording.{words-field}
use Rattle.script_text.proofs.CommandLines.{field-plain, word}

-- Inversions

filter-from : (text : List ℕ) (tree : Tree) → filter_said text ≡ Ok tree → IsFilterOf text tree
unfolding filter_said
filter-from text tree h = (found text tree).0 (denoted (filter_of text) fault.BadFilter tree h)

device-from : (before : Earlier) (name : List ℕ) (k : ℕ) → device_said before name ≡ Ok k → k < length before.names
unfolding device_said
device-from before name k h =
    let at = position_or_len (bytes_eq name) before.names in
    let r = some_if (ltb at (length before.names)) at k (denoted (place_of before.names name) fault.UnknownDevice k h) in
    let within : at < length before.names = ltb-true at (length before.names) r.0 in
    let same : at ≡ k = r.1 in
    omega arith

number-from : (fits : ℕ → Bool) (text : List ℕ) (n : ℕ) → cond (is_decimal text && fits (number_of text)) (Some (number_of text)) None ≡ Some n → fits n ≡ true
number-from fits text n h =
    let r = some_if (is_decimal text && fits (number_of text)) (number_of text) n h in
    ap fits (sym r.1) ∙ (and_parts (is_decimal text) (fits (number_of text)) r.0).1

abbrev FitsAuthor : Earlier → Author → Type 0
FitsAuthor before a = (device_of_author a < length before.names) × (epoch_of_author a ≤ max_epoch)

author-is : (before : Earlier) (device epoch : ℕ) (a : Author) → device < length before.names → epoch ≤ max_epoch → author_at device epoch ≡ a → FitsAuthor before a
author-is before device epoch a within few e =
    let d : (device * 4294967296 + epoch) / 4294967296 ≡ device = omega arith in
    let n : (device * 4294967296 + epoch) % 4294967296 ≡ epoch = omega arith in
    subst (FitsAuthor before) e (subst (λ k. k < length before.names) (sym d) within, subst (λ k. k ≤ max_epoch) (sym n) few)

author-none : (before : Earlier) (text : List ℕ) (a : Author) → cut_at_dot text ≡ None → author_said before text ≡ Ok a → FitsAuthor before a
unfolding author_said
author-none before text a e h =
    let g = rw e at h in
    let device = bound (device_said before text) (λ k. Ok (author k)) a g in
    let same : author device.0 ≡ a = cc in
    author-is before device.0 0 a (device-from before text device.0 device.1) (omega arith) same

author-some : (before : Earlier) (text name epoch : List ℕ) (a : Author) → cut_at_dot text ≡ Some (name, epoch) → author_said before text ≡ Ok a → FitsAuthor before a
unfolding author_said
author-some before text name epoch a e h =
    let g = rw e at h in
    let device = bound (device_said before name) _ a g in
    let number = bound (or_fault (epoch_of epoch) fault.BadNumber) (λ n. Ok (author_at device.0 n)) a device.2 in
    let same : author_at device.0 number.0 ≡ a = cc in
    let range = number-from is_epoch epoch number.0 (denoted (epoch_of epoch) fault.BadNumber number.0 number.1) in
    let few : number.0 ≤ max_epoch = leb-true number.0 max_epoch (and_parts (leb 1 number.0) (leb number.0 max_epoch) range).1 in
    author-is before device.0 number.0 a (device-from before name device.0 device.1) few same

author-from : (before : Earlier) (text : List ℕ) (a : Author) → author_said before text ≡ Ok a → FitsAuthor before a
author-from before text a h = by (cut_at_dot text) refl
  where
    by : (cut : Option (List ℕ × List ℕ)) → cut_at_dot text ≡ cut → FitsAuthor before a
    by None e = author-none before text a e h
    by (Some (name, epoch)) e = author-some before text name epoch a e h

version-from : (s : Contents) (before : Earlier) (text : List ℕ) (v : Version) → before.names ≡ s.names → version_said before text ≡ Ok v → FitsVersion s v
unfolding version_said
version-from s before text v names h =
    let parts = bound (or_fault (cut_at_colon text) fault.BadNumber) _ v h in
    let maker = bound (author_said before parts.0.0) _ v parts.2 in
    let number = bound (or_fault (version_number_of parts.0.1) fault.BadNumber) (λ n. Ok (version maker.0 n)) v maker.2 in
    let same : version maker.0 number.0 ≡ v = cc in
    let range = number-from is_version_number parts.0.1 number.0 (denoted (version_number_of parts.0.1) fault.BadNumber number.0 number.1) in
    let both = and_parts (leb 1 number.0) (leb number.0 max_version) range in
    let first : 1 ≤ number.0 = leb-true 1 number.0 both.0 in
    let few : number.0 ≤ max_version = leb-true number.0 max_version both.1 in
    let author = author-from before parts.0.0 maker.0 maker.1 in
    subst (FitsVersion s) same (record { maker = subst (λ ns. device_of_author maker.0 < length ns) names author.0; first = omega arith; few = few; early = author.1 })

-- A device

pub device-needs : (before : Earlier) (name : List ℕ) (filter : Tree) (x : Option Command) → is_name name ≡ true → IsSound filter → said before (line_of_device name filter) ≡ Ok x → FitsDevice name filter × (x ≡ None)
unfolding fields_said device_line_said declaration_said
device-needs before name filter x good sound h =
    let parts = line-parts before (line_of_device name filter) x h in
    let b = filter-begins filter in
    let start = word (codes "device") refl refl in
    let n = name-field name good in
    let line = line_of_device name filter in
    let fields = codes "device" ∷ name ∷ b.first ∷ b.more in
    let is : fields_of line ≡ fields = field-first (codes "device") (name ␣ text_of filter) start ∙ ap (λ fs. codes "device" ∷ fs) (field-first name (text_of filter) n ∙ ap (λ fs. name ∷ fs) b.fields) in
    let third : third_field_on line ≡ text_of filter = third-on (codes "device") name (text_of filter) start n b.at_once in
    let says : fields_said before fields (text_of filter) ≡ Ok x = sym (ap (λ fs. fields_said before fs (third_field_on line)) is ∙ ap (fields_said before fields) third) ∙ parts.1 in
    let late = passed (ltb 0 before.commands) fault.LateDevice _ x says in
    let room = passed (leb max_devices (length before.names)) fault.TooMany _ x late.1 in
    let named = passed (not (is_name name)) fault.BadName _ x room.1 in
    let fresh = passed (is_some (place_of before.names name)) fault.RepeatedDevice _ x named.1 in
    let tree = bound (filter_said (text_of filter)) _ x fresh.1 in
    let found : IsFilterOf (text_of filter) tree.0 = filter-from (text_of filter) tree.0 tree.1 in
    let same : tree.0 ≡ filter = one-tree _ tree.0 filter found.read.grammar (term (factor (printed filter sound))) in
    ((subst (IsFilterOf (text_of filter)) same found, parts.0), cc)

-- Commands

new-record : (before : Earlier) (name picture rating date words filter : List ℕ) (d p : ℕ) (r : Record) → fields_said before (codes "new" ∷ name ∷ picture ∷ rating ∷ date ∷ words ∷ []) filter ≡ Ok (Some (command.New d p r)) → record_said rating date words ≡ Ok r
unfolding fields_said command_line_said new_line_said command_said creation_said
new-record before name picture rating date words filter d p r h =
    let room = passed (leb max_commands before.commands) fault.TooMany _ (Some (command.New d p r)) h in
    let one = bound _ (λ (c : Command). Ok (Some c)) (Some (command.New d p r)) room.1 in
    let device = bound (device_said before name) _ one.0 one.1 in
    let number = bound (new_picture_said before picture) _ one.0 device.2 in
    let rest = bound (record_said rating date words) _ one.0 number.2 in
    let same : rest.0 ≡ r = cc in
    rest.1 ∙ ap Ok same

edit-record : (before : Earlier) (name picture rating date words filter : List ℕ) (d p : ℕ) (r : Record) → fields_said before (codes "edit" ∷ name ∷ picture ∷ rating ∷ date ∷ words ∷ []) filter ≡ Ok (Some (command.Edit d p r)) → record_said rating date words ≡ Ok r
unfolding fields_said command_line_said edit_line_said command_said edition_said
edit-record before name picture rating date words filter d p r h =
    let room = passed (leb max_commands before.commands) fault.TooMany _ (Some (command.Edit d p r)) h in
    let one = bound _ (λ (c : Command). Ok (Some c)) (Some (command.Edit d p r)) room.1 in
    let device = bound (device_said before name) _ one.0 one.1 in
    let number = bound (picture_said picture) _ one.0 device.2 in
    let rest = bound (record_said rating date words) _ one.0 number.2 in
    let same : rest.0 ≡ r = cc in
    rest.1 ∙ ap Ok same

narrow-filter : (before : Earlier) (name first : List ℕ) (more : List (List ℕ)) (text : List ℕ) (d : ℕ) (f : Tree) → fields_said before (codes "narrow" ∷ name ∷ first ∷ more) text ≡ Ok (Some (command.Narrow d f)) → IsFilterOf text f
unfolding fields_said command_line_said narrow_line_said device_and_filter_said filtering_said
narrow-filter before name first more text d f h =
    let two = bound _ (λ (n : ℕ × Tree). Ok (Some (command.Narrow n.0 n.1))) (Some (command.Narrow d f)) h in
    let room = passed (leb max_commands before.commands) fault.TooMany _ two.0 two.1 in
    let device = bound (device_said before name) _ two.0 room.1 in
    let tree = bound (filter_said text) _ two.0 device.2 in
    let same : tree.0 ≡ f = cc in
    subst (IsFilterOf text) same (filter-from text tree.0 tree.1)

refilter-filter : (before : Earlier) (name first : List ℕ) (more : List (List ℕ)) (text : List ℕ) (d : ℕ) (f : Tree) → fields_said before (codes "refilter" ∷ name ∷ first ∷ more) text ≡ Ok (Some (command.Refilter d f)) → IsFilterOf text f
unfolding fields_said command_line_said refilter_line_said device_and_filter_said filtering_said
refilter-filter before name first more text d f h =
    let two = bound _ (λ (n : ℕ × Tree). Ok (Some (command.Refilter n.0 n.1))) (Some (command.Refilter d f)) h in
    let room = passed (leb max_commands before.commands) fault.TooMany _ two.0 two.1 in
    let device = bound (device_said before name) _ two.0 room.1 in
    let tree = bound (filter_said text) _ two.0 device.2 in
    let same : tree.0 ≡ f = cc in
    subst (IsFilterOf text) same (filter-from text tree.0 tree.1)

knows-version : (s : Contents) (before : Earlier) (name picture text filter : List ℕ) (d p : ℕ) (v : Version) → before.names ≡ s.names → fields_said before (codes "knows" ∷ name ∷ picture ∷ text ∷ []) filter ≡ Ok (Some (command.Knows d p v)) → FitsVersion s v
unfolding fields_said command_line_said question_line_said knows_line_said command_said question_said
knows-version s before name picture text filter d p v names h =
    let room = passed (leb max_commands before.commands) fault.TooMany _ (Some (command.Knows d p v)) h in
    let one = bound _ (λ (c : Command). Ok (Some c)) (Some (command.Knows d p v)) room.1 in
    let device = bound (device_said before name) _ one.0 one.1 in
    let number = bound (picture_said picture) _ one.0 device.2 in
    let w = bound (version_said before text) _ one.0 number.2 in
    let same : w.0 ≡ v = cc in
    version-from s before text v names (w.1 ∙ ap Ok same)

ok-same : {E : Type 0} {x y : Record} → (let r : Result Record E = Ok x in r) ≡ Ok y → x ≡ y
ok-same e = cc

abbrev set-of : Record → List (List ℕ)
set-of (content.Picture rating day words) = words
set-of content.Removed = []

-- a record that reads back from its line doesn't have `-` as its only word
not-dash : (rating : ℕ) (day : ℤ) (words : List (List ℕ)) → rating ≤ max_rating → IsDay day → record_said (decimal rating) (date_text day) (words_text words) ≡ Ok (content.Picture rating day words) → words ≢ (codes "-" ∷ [])
not-dash rating day words stars date h e =
    let none : AreWords [] = (record { rising = refl; few = omega arith; each = All-nil IsWord }, tt) in
    let said = record-said rating day [] stars date none (λ q. let bad : [] ≡ codes "-" ∷ [] = q in cc) in
    let text : words_text words ≡ codes "-" = ap words_text e in
    let both : content.Picture rating day [] ≡ content.Picture rating day words = ok-same (sym said ∙ ap (record_said (decimal rating) (date_text day)) (sym text) ∙ h) in
    let bad : [] ≡ codes "-" ∷ [] = ap set-of both ∙ e in
    cc

removed-refused : (before : Earlier) (name picture last filter : List ℕ) (x : Option Command) → fields_said before (codes "new" ∷ name ∷ picture ∷ last ∷ []) filter ≡ Ok x → ⊥
unfolding fields_said command_line_said new_line_said
removed-refused before name picture last filter x h = cc

removed-refused-edit : (before : Earlier) (name picture last filter : List ℕ) (x : Option Command) → fields_said before (codes "edit" ∷ name ∷ picture ∷ last ∷ []) filter ≡ Ok x → ⊥
unfolding fields_said command_line_said edit_line_said
removed-refused-edit before name picture last filter x h = cc

-- a printed line has no LF, and a command that reads back from its line is one that a line can state
pub record Needs (s : Contents) (x : Command) : Type 0 where
  pub plain : is_from 32 (line_of_command s x) ≡ true
  pub needs : (before : Earlier) → before.names ≡ s.names → said before (line_of_command s x) ≡ Ok (Some x) → FitsCommand s x

some-last : (xs : List ℕ) (y : ℕ) → is_not_empty (xs ++ y ∷ []) ≡ true
some-last [] y = some-cons y []
some-last (b ∷ bs) y = some-cons b (bs ++ y ∷ [])

epoch-plain : (epoch : ℕ) → epoch < 4294967296 → is_from 33 (epoch_text epoch) ≡ true
epoch-plain epoch small = by (eqb epoch 0) refl
  where
    by : (first : Bool) → eqb epoch 0 ≡ first → is_from 33 (epoch_text epoch) ≡ true
    by true e = ap (is_from 33) (cond-true (eqb epoch 0) [] (codes "." ++ decimal epoch) e)
    by false e = ap (is_from 33) (cond-false (eqb epoch 0) [] (codes "." ++ decimal epoch) e) ∙ from-cons 33 46 (decimal epoch) (omega arith) (decimal-field epoch (omega arith)).plain

of-fields : (before : Earlier) (fields : List (List ℕ)) (x : Option Command) → AllByRecursion IsField fields → said before (join_with_byte 32 fields) ≡ Ok x → fields_said before fields (third_field_on (join_with_byte 32 fields)) ≡ Ok x
of-fields before fields x each h =
    let line = join_with_byte 32 fields in
    sym (ap (λ fs. fields_said before fs (third_field_on line)) (fields-joined fields each)) ∙ (line-parts before line x h).1

module _ (s : Contents) (named : AllByRecursion (λ name. is_name name ≡ true) s.names) where
  field : (device : ℕ) → device < length s.names → IsField (name_of s device)
  field device within = name-field (name_of s device) (name-at s.names device named within)

  picture-field : (n : ℕ) → IsPicNo n → IsField (decimal n)
  picture-field n h = let high : n ≤ 999_999_999 = h.1 in decimal-field n (omega arith)

  name-plain : (device : ℕ) → is_from 33 (name_of s device) ≡ true
  name-plain device = elim (cases_lt device (length s.names)) [
    | inl within ↦ (field device within).plain
    | inr past ↦ ap (is_from 33) (get_or_past s.names device [] past)
  ]

  version-plain : (v : Version) → v.number < 4294967296 → IsField (version_text s v)
  version-plain v small =
      let name = name_of s (device_of_author v.author) in
      let epoch = epoch_of_author v.author in
      let low : epoch < 4294967296 = omega arith in
      record {
        plain = from-append 33 ((name ++ epoch_text epoch) ++ codes ":") (decimal v.number) (from-append 33 (name ++ epoch_text epoch) (codes ":") (from-append 33 name (epoch_text epoch) (name-plain (device_of_author v.author)) (epoch-plain epoch low)) refl) (decimal-field v.number (omega arith)).plain;
        some = some-append ((name ++ epoch_text epoch) ++ codes ":") (decimal v.number) (some-last (name ++ epoch_text epoch) 58);
      }

  simple : (x : Command) (fields : List (List ℕ)) → AllByRecursion IsField fields → line_of_command s x ≡ join_with_byte 32 fields → FitsCommand s x → Needs s x
  simple x fields each is fits = record { plain = ap (is_from 32) is ∙ joined-from fields each; needs = λ before names h. fits }

  filter-plain-line : (start name : List ℕ) (filter : Tree) → IsField start → IsField name → IsSound filter → is_from 32 (start ␣ name ␣ text_of filter) ≡ true
  filter-plain-line start name filter w n sound =
      from-append 32 start (32 ∷ (name ␣ text_of filter)) (field-plain start w) (from-append 32 name (32 ∷ text_of filter) (field-plain name n) (filter-plain (term (factor (printed filter sound)))))

  filter-fields : (before : Earlier) (start name : List ℕ) (filter : Tree) (x : Option Command) → IsField start → IsField name → said before (start ␣ name ␣ text_of filter) ≡ Ok x
      → fields_said before (start ∷ name ∷ (filter-begins filter).first ∷ (filter-begins filter).more) (text_of filter) ≡ Ok x
  filter-fields before start name filter x w n h =
      let b = filter-begins filter in
      let line = start ␣ name ␣ text_of filter in
      let fields = start ∷ name ∷ b.first ∷ b.more in
      let is : fields_of line ≡ fields = field-first start (name ␣ text_of filter) w ∙ ap (λ fs. start ∷ fs) (field-first name (text_of filter) n ∙ ap (λ fs. name ∷ fs) b.fields) in
      let third : third_field_on line ≡ text_of filter = third-on start name (text_of filter) w n b.at_once in
      sym (ap (λ fs. fields_said before fs (third_field_on line)) is ∙ ap (fields_said before fields) third) ∙ (line-parts before line x h).1

  new-needs : (device picture : ℕ) (r : Record) → device < length s.names → IsPicNo picture → IsInRange r → HasWords r → Needs s (command.New device picture r)
  unfolding line_of_command
  new-needs device picture (content.Picture rating day words) within p range has =
      let stars = range.rating in
      let fields = codes "new" ∷ name_of s device ∷ decimal picture ∷ decimal rating ∷ date_text day ∷ words_text words ∷ [] in
      let each : AllByRecursion IsField fields = (word (codes "new") refl refl, (field device within, (picture-field picture p, (decimal-field rating (omega arith), (date-field day, (words-field words (are-spelt words has), tt)))))) in
      record {
        plain = joined-from fields each;
        needs = λ before names h. not-dash rating day words range.rating range.day (new-record before (name_of s device) (decimal picture) (decimal rating) (date_text day) (words_text words) _ device picture (content.Picture rating day words) (of-fields before fields _ each h));
      }
  new-needs device picture content.Removed within p range has =
      let fields = codes "new" ∷ name_of s device ∷ decimal picture ∷ codes "removed" ∷ [] in
      let each : AllByRecursion IsField fields = (word (codes "new") refl refl, (field device within, (picture-field picture p, (word (codes "removed") refl refl, tt)))) in
      record {
        plain = joined-from fields each;
        needs = λ before names h. removed-refused before (name_of s device) (decimal picture) (codes "removed") _ _ (of-fields before fields _ each h);
      }

  edit-needs : (device picture : ℕ) (r : Record) → device < length s.names → IsPicNo picture → IsInRange r → HasWords r → Needs s (command.Edit device picture r)
  unfolding line_of_command
  edit-needs device picture (content.Picture rating day words) within p range has =
      let stars = range.rating in
      let fields = codes "edit" ∷ name_of s device ∷ decimal picture ∷ decimal rating ∷ date_text day ∷ words_text words ∷ [] in
      let each : AllByRecursion IsField fields = (word (codes "edit") refl refl, (field device within, (picture-field picture p, (decimal-field rating (omega arith), (date-field day, (words-field words (are-spelt words has), tt)))))) in
      record {
        plain = joined-from fields each;
        needs = λ before names h. not-dash rating day words range.rating range.day (edit-record before (name_of s device) (decimal picture) (decimal rating) (date_text day) (words_text words) _ device picture (content.Picture rating day words) (of-fields before fields _ each h));
      }
  edit-needs device picture content.Removed within p range has =
      let fields = codes "edit" ∷ name_of s device ∷ decimal picture ∷ codes "removed" ∷ [] in
      let each : AllByRecursion IsField fields = (word (codes "edit") refl refl, (field device within, (picture-field picture p, (word (codes "removed") refl refl, tt)))) in
      record {
        plain = joined-from fields each;
        needs = λ before names h. removed-refused-edit before (name_of s device) (decimal picture) (codes "removed") _ _ (of-fields before fields _ each h);
      }

  knows-needs : (device picture : ℕ) (v : Version) → device < length s.names → IsPicNo picture → v.number < 4294967296 → Needs s (command.Knows device picture v)
  unfolding line_of_command
  knows-needs device picture v within p small =
      let fields = codes "knows" ∷ name_of s device ∷ decimal picture ∷ version_text s v ∷ [] in
      let each : AllByRecursion IsField fields = (word (codes "knows") refl refl, (field device within, (picture-field picture p, (version-plain v small, tt)))) in
      record {
        plain = joined-from fields each;
        needs = λ before names h. knows-version s before (name_of s device) (decimal picture) (version_text s v) _ device picture v names (of-fields before fields _ each h);
      }

  narrow-needs : (device : ℕ) (filter : Tree) → device < length s.names → IsSound filter → Needs s (command.Narrow device filter)
  unfolding line_of_command
  narrow-needs device filter within sound =
      let w = word (codes "narrow") refl refl in
      let n = field device within in
      record {
        plain = filter-plain-line (codes "narrow") (name_of s device) filter w n sound;
        needs = λ before names h. narrow-filter before (name_of s device) (filter-begins filter).first (filter-begins filter).more (text_of filter) device filter (filter-fields before (codes "narrow") (name_of s device) filter _ w n h);
      }

  refilter-needs : (device : ℕ) (filter : Tree) → device < length s.names → IsSound filter → Needs s (command.Refilter device filter)
  unfolding line_of_command
  refilter-needs device filter within sound =
      let w = word (codes "refilter") refl refl in
      let n = field device within in
      record {
        plain = filter-plain-line (codes "refilter") (name_of s device) filter w n sound;
        needs = λ before names h. refilter-filter before (name_of s device) (filter-begins filter).first (filter-begins filter).more (text_of filter) device filter (filter-fields before (codes "refilter") (name_of s device) filter _ w n h);
      }

  pub command-needs : (x : Command) → IsWithin (length s.names) x → IfSome (record_of x) IsInRange → HasValues x → HasTyped x → Needs s x
  unfolding line_of_command
  command-needs (command.New device picture r) within range has typed = new-needs device picture r within.0 has.0 range has.1
  command-needs (command.Edit device picture r) within range has typed = edit-needs device picture r within.0 has.0 range has.1
  command-needs (command.Remove device picture) within range has typed = simple (command.Remove device picture) (codes "remove" ∷ name_of s device ∷ decimal picture ∷ []) (word (codes "remove") refl refl, (field device within.0, (picture-field picture has, tt))) refl tt
  command-needs (command.Pull target source) within range has typed = simple (command.Pull target source) (codes "pull" ∷ name_of s target ∷ name_of s source ∷ []) (word (codes "pull") refl refl, (field target within.0, (field source within.1.0, tt))) refl tt
  command-needs (command.Narrow device filter) within range has typed = narrow-needs device filter within.0 typed
  command-needs (command.Refilter device filter) within range has typed = refilter-needs device filter within.0 typed
  command-needs (command.Preview target source) within range has typed = simple (command.Preview target source) (codes "preview" ∷ name_of s target ∷ name_of s source ∷ []) (word (codes "preview") refl refl, (field target within.0, (field source within.1.0, tt))) refl tt
  command-needs (command.List device) within range has typed = simple (command.List device) (codes "list" ∷ name_of s device ∷ []) (word (codes "list") refl refl, (field device within.0, tt)) refl tt
  command-needs (command.Conflicts device) within range has typed = simple (command.Conflicts device) (codes "conflicts" ∷ name_of s device ∷ []) (word (codes "conflicts") refl refl, (field device within.0, tt)) refl tt
  command-needs (command.Knowledge device) within range has typed = simple (command.Knowledge device) (codes "knowledge" ∷ name_of s device ∷ []) (word (codes "knowledge") refl refl, (field device within.0, tt)) refl tt
  command-needs (command.Knows device picture v) within range has typed = knows-needs device picture v within.0 has typed

  pub device-plain : (name : List ℕ) (filter : Tree) → is_name name ≡ true → IsSound filter → is_from 32 (line_of_device name filter) ≡ true
  device-plain name filter good sound = filter-plain-line (codes "device") name filter (word (codes "device") refl refl) (name-field name good) sound
