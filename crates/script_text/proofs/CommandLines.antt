-- What the line of each kind of command says.
use Rattle.std.proofs.Common.{◌≡◌, ◌≢◌, ℕ, ℤ, ◌<◌, ◌≤◌, true, List, [], ◌∷◌, length, Some, Ok, codes, refl, sym, ap, subst, ◌∙◌, arith}
use Rattle.std.specs.Prelude.{IfSome}
use Rattle.std.specs.Fmt.{decimal}
use Rattle.std.specs.List.{AllByRecursion, join_with_byte}
use Rattle.std.proofs.lemmas.Bool.{cond-false, le-ltb, ne_eqb}
use Rattle.photo_record.specs.Limits.{IsPicNo, IsDay, max_rating}
use Rattle.photo_record.specs.declared.record.Record.TheVariants as content
use Rattle.photo_filter_text.specs.Tree.{Tree}
use Rattle.photo_filter_text.specs.Printed.{◌␣◌, text_of, date_text}
use Rattle.photo_filter_rules.specs.Matching.{IsInRange}
use Rattle.photo_version.specs.Author.{device_of_author}
use Rattle.photo_version.specs.Version.{Version}
use Rattle.fleet_model.specs.Contents.{Contents, IsWithin, record_of}
use Rattle.script_reader.specs.Earlier.{Earlier, declared_by, filter_declared_by, made_by, is_command}
use Rattle.script_reader.specs.Fields.{is_name}
use Rattle.script_reader.specs.Limits.{max_line_bytes}
use Rattle.script_reader.specs.Lines.{fields_of, third_field_on, is_not_empty}
use Rattle.photo_record.specs.Showing.{words_text}
use Rattle.photo_script.specs.Reports.{name_of, version_text}
use Rattle.script_reader.specs.Saying.{said, fields_said, device_said}
use Rattle.fleet_model.specs.declared.command.Command.{Command}
use Rattle.fleet_model.specs.declared.command.Command.TheVariants as command
use Rattle.script_text.specs.Laws.{IsBefore}
use Rattle.script_text.specs.Texts.{line_of_command}
use Rattle.script_text.specs.Printable.{FitsVersion, FitsFilter, FitsCommand, made_in, AllDiffer, IsShort, AreWords, HasValues}
use Rattle.script_text.proofs.Bytes.{is_from, from-append, from-weaker}
use Rattle.script_text.proofs.Cuts.{IsField, fields-joined, joined-from, field-first, third-on}
use Rattle.script_text.proofs.Digits.{decimal-field, number-back}
use Rattle.script_text.proofs.FilterBytes.{date-field, filter-plain, filter-begins}
use Rattle.script_text.proofs.SaidKinds.{new-line, edit-line, remove-line, pull-line, preview-line, narrow-line, refilter-line, list-line, conflicts-line, knowledge-line, knows-line}
use Rattle.script_text.proofs.NameBytes.{name-at, name-field}
use Rattle.script_text.proofs.Saying.{are-spelt, record-said, picture-said, new_picture-said, device-said, version-said, version-field}
use Rattle.script_text.proofs.Wording.{words-field}

-- what the command's line says, and what it tells later lines
pub record IsLineOf (s : Contents) (x : Command) (line : List ℕ) : Type 0 where
  pub plain : is_from 32 line ≡ true
  pub no_name : declared_by (fields_of line) ≡ []
  pub no_filter : filter_declared_by (fields_of line) (third_field_on line) ≡ []
  pub makes : made_by (fields_of line) ≡ made_in x
  pub counts : is_command (fields_of line) ≡ true
  pub says : (before : Earlier) → IsBefore s x before → said before line ≡ Ok (Some x)

-- the same for the line's fields
record IsFieldsOf (s : Contents) (x : Command) (fields : List (List ℕ)) (filter : List ℕ) : Type 0 where
  no_name : declared_by fields ≡ []
  no_filter : filter_declared_by fields filter ≡ []
  makes : made_by fields ≡ made_in x
  counts : is_command fields ≡ true
  says : (before : Earlier) → IsBefore s x before → fields_said before fields filter ≡ Ok (Some x)

pub fields-said : (before : Earlier) (line : List ℕ) → length line ≤ max_line_bytes → said before line ≡ fields_said before (fields_of line) (third_field_on line)
unfolding said
fields-said before line short = cond-false _ _ _ (le-ltb max_line_bytes (length line) short)

of-fields : (s : Contents) (x : Command) (line : List ℕ) (fields : List (List ℕ)) → is_from 32 line ≡ true → length line ≤ max_line_bytes → fields_of line ≡ fields → IsFieldsOf s x fields (third_field_on line) → IsLineOf s x line
of-fields s x line fields plain short is h = record {
  plain = plain;
  no_name = ap declared_by is ∙ h.no_name;
  no_filter = ap (λ fs. filter_declared_by fs (third_field_on line)) is ∙ h.no_filter;
  makes = ap made_by is ∙ h.makes;
  counts = ap is_command is ∙ h.counts;
  says = λ before b. fields-said before line short ∙ ap (λ fs. fields_said before fs (third_field_on line)) is ∙ h.says before b;
}

-- a line that consists of fields only
of-joined : (s : Contents) (x : Command) (fields : List (List ℕ)) → AllByRecursion IsField fields → length (join_with_byte 32 fields) ≤ max_line_bytes → ((filter : List ℕ) → IsFieldsOf s x fields filter) → IsLineOf s x (join_with_byte 32 fields)
of-joined s x fields each short h = of-fields s x (join_with_byte 32 fields) fields (joined-from fields each) short (fields-joined fields each) (h (third_field_on (join_with_byte 32 fields)))

-- a fixed word is a field
pub word : (w : List ℕ) → is_from 33 w ≡ true → is_not_empty w ≡ true → IsField w
word w h g = record { plain = h; some = g }

pub field-plain : (x : List ℕ) → IsField x → is_from 32 x ≡ true
field-plain x f = from-weaker 32 33 x (omega arith) f.plain

-- a line with a filter
filter-line : (s : Contents) (x : Command) (start name : List ℕ) (filter : Tree) → IsField start → IsField name → FitsFilter filter → length (start ␣ name ␣ text_of filter) ≤ max_line_bytes
    → ((first : List ℕ) (more : List (List ℕ)) → IsFieldsOf s x (start ∷ name ∷ first ∷ more) (text_of filter)) → IsLineOf s x (start ␣ name ␣ text_of filter)
filter-line s x start name filter w n fits short h =
    let b = filter-begins filter in
    let line = start ␣ name ␣ text_of filter in
    let fields = field-first start (name ␣ text_of filter) w ∙ ap (λ fs. start ∷ fs) (field-first name (text_of filter) n ∙ ap (λ fs. name ∷ fs) b.fields) in
    let third = third-on start name (text_of filter) w n b.at_once in
    let plain = from-append 32 start (32 ∷ (name ␣ text_of filter)) (field-plain start w) (from-append 32 name (32 ∷ text_of filter) (field-plain name n) (filter-plain fits.read.grammar)) in
    of-fields s x line (start ∷ name ∷ b.first ∷ b.more) plain short fields (subst (IsFieldsOf s x (start ∷ name ∷ b.first ∷ b.more)) (sym third) (h b.first b.more))

module _ (s : Contents) (named : AllByRecursion (λ name. is_name name ≡ true) s.names) (apart : AllDiffer s.names) where
  name-good : (device : ℕ) → device < length s.names → is_name (name_of s device) ≡ true
  name-good device within = name-at s.names device named within

  field : (device : ℕ) → device < length s.names → IsField (name_of s device)
  field device within = name-field (name_of s device) (name-good device within)

  known : (x : Command) (before : Earlier) → IsBefore s x before → (device : ℕ) → device < length s.names → Ok device ≡ device_said before (name_of s device)
  known x before b device within = device-said s before apart b.names device within

  picture-field : (n : ℕ) → IsPicNo n → IsField (decimal n)
  picture-field n h = let high : n ≤ 999_999_999 = h.1 in decimal-field n (omega arith)

  -- Lines that consist of fields only

  remove : (device picture : ℕ) → device < length s.names → IsPicNo picture → IsShort (line_of_command s (command.Remove device picture)) → IsLineOf s (command.Remove device picture) (line_of_command s (command.Remove device picture))
  unfolding line_of_command
  remove device picture within p short =
      of-joined s (command.Remove device picture) (codes "remove" ∷ name_of s device ∷ decimal picture ∷ []) (word (codes "remove") refl refl, (field device within, (picture-field picture p, tt))) short (λ filter. record {
        no_name = refl;
        no_filter = refl;
        makes = refl;
        counts = refl;
        says = λ before b. remove-line before b.room filter (name_of s device) device (known _ before b device within) (decimal picture) picture (picture-said picture p);
      })

  new : (device picture rating : ℕ) (day : ℤ) (words : List (List ℕ)) → device < length s.names → IsPicNo picture → rating ≤ max_rating → IsDay day → AreWords words → words ≢ (codes "-" ∷ [])
      → (let x = command.New device picture (content.Picture rating day words) in IsShort (line_of_command s x) → IsLineOf s x (line_of_command s x))
  unfolding line_of_command
  new device picture rating day words within p stars date set other short =
      of-joined s (command.New device picture (content.Picture rating day words)) (codes "new" ∷ name_of s device ∷ decimal picture ∷ decimal rating ∷ date_text day ∷ words_text words ∷ [])
      (word (codes "new") refl refl, (field device within, (picture-field picture p, (decimal-field rating (omega arith), (date-field day, (words-field words (are-spelt words set), tt)))))) short (λ filter. record {
        no_name = refl;
        no_filter = refl;
        makes = ap (λ n. n ∷ []) (number-back picture p);
        counts = refl;
        says = λ before b. new-line before b.room filter (name_of s device) device (known _ before b device within) (decimal picture) (decimal rating) (date_text day) (words_text words) picture (content.Picture rating day words) (new_picture-said before picture p (b.fresh picture refl)) (record-said rating day words stars date set other);
      })

  edit : (device picture rating : ℕ) (day : ℤ) (words : List (List ℕ)) → device < length s.names → IsPicNo picture → rating ≤ max_rating → IsDay day → AreWords words → words ≢ (codes "-" ∷ [])
      → (let x = command.Edit device picture (content.Picture rating day words) in IsShort (line_of_command s x) → IsLineOf s x (line_of_command s x))
  unfolding line_of_command
  edit device picture rating day words within p stars date set other short =
      of-joined s (command.Edit device picture (content.Picture rating day words)) (codes "edit" ∷ name_of s device ∷ decimal picture ∷ decimal rating ∷ date_text day ∷ words_text words ∷ [])
      (word (codes "edit") refl refl, (field device within, (picture-field picture p, (decimal-field rating (omega arith), (date-field day, (words-field words (are-spelt words set), tt)))))) short (λ filter. record {
        no_name = refl;
        no_filter = refl;
        makes = refl;
        counts = refl;
        says = λ before b. edit-line before b.room filter (name_of s device) device (known _ before b device within) (decimal picture) (decimal rating) (date_text day) (words_text words) picture (content.Picture rating day words) (picture-said picture p) (record-said rating day words stars date set other);
      })

  pull : (target source : ℕ) → target < length s.names → source < length s.names → source ≢ target → (let x = command.Pull target source in IsShort (line_of_command s x) → IsLineOf s x (line_of_command s x))
  unfolding line_of_command
  pull target source within also apart' short =
      of-joined s (command.Pull target source) (codes "pull" ∷ name_of s target ∷ name_of s source ∷ []) (word (codes "pull") refl refl, (field target within, (field source also, tt))) short (λ filter. record {
        no_name = refl;
        no_filter = refl;
        makes = refl;
        counts = refl;
        says = λ before b. pull-line before b.room filter (name_of s target) target (known _ before b target within) (name_of s source) source (known _ before b source also) (ne_eqb target source (λ e. apart' (sym e)));
      })

  preview : (target source : ℕ) → target < length s.names → source < length s.names → source ≢ target → (let x = command.Preview target source in IsShort (line_of_command s x) → IsLineOf s x (line_of_command s x))
  unfolding line_of_command
  preview target source within also apart' short =
      of-joined s (command.Preview target source) (codes "preview" ∷ name_of s target ∷ name_of s source ∷ []) (word (codes "preview") refl refl, (field target within, (field source also, tt))) short (λ filter. record {
        no_name = refl;
        no_filter = refl;
        makes = refl;
        counts = refl;
        says = λ before b. preview-line before b.room filter (name_of s target) target (known _ before b target within) (name_of s source) source (known _ before b source also) (ne_eqb target source (λ e. apart' (sym e)));
      })

  list : (device : ℕ) → device < length s.names → (let x = command.List device in IsShort (line_of_command s x) → IsLineOf s x (line_of_command s x))
  unfolding line_of_command
  list device within short =
      of-joined s (command.List device) (codes "list" ∷ name_of s device ∷ []) (word (codes "list") refl refl, (field device within, tt)) short (λ filter. record {
        no_name = refl;
        no_filter = refl;
        makes = refl;
        counts = refl;
        says = λ before b. list-line before b.room filter (name_of s device) device (known _ before b device within);
      })

  conflicts : (device : ℕ) → device < length s.names → (let x = command.Conflicts device in IsShort (line_of_command s x) → IsLineOf s x (line_of_command s x))
  unfolding line_of_command
  conflicts device within short =
      of-joined s (command.Conflicts device) (codes "conflicts" ∷ name_of s device ∷ []) (word (codes "conflicts") refl refl, (field device within, tt)) short (λ filter. record {
        no_name = refl;
        no_filter = refl;
        makes = refl;
        counts = refl;
        says = λ before b. conflicts-line before b.room filter (name_of s device) device (known _ before b device within);
      })

  knowledge : (device : ℕ) → device < length s.names → (let x = command.Knowledge device in IsShort (line_of_command s x) → IsLineOf s x (line_of_command s x))
  unfolding line_of_command
  knowledge device within short =
      of-joined s (command.Knowledge device) (codes "knowledge" ∷ name_of s device ∷ []) (word (codes "knowledge") refl refl, (field device within, tt)) short (λ filter. record {
        no_name = refl;
        no_filter = refl;
        makes = refl;
        counts = refl;
        says = λ before b. knowledge-line before b.room filter (name_of s device) device (known _ before b device within);
      })

  knows : (device picture : ℕ) (v : Version) → device < length s.names → IsPicNo picture → FitsVersion s v → (let x = command.Knows device picture v in IsShort (line_of_command s x) → IsLineOf s x (line_of_command s x))
  unfolding line_of_command
  knows device picture v within p fits short =
      let good = name-good (device_of_author v.author) fits.maker in
      of-joined s (command.Knows device picture v) (codes "knows" ∷ name_of s device ∷ decimal picture ∷ version_text s v ∷ []) (word (codes "knows") refl refl, (field device within, (picture-field picture p, (version-field s v good fits, tt)))) short (λ filter. record {
        no_name = refl;
        no_filter = refl;
        makes = refl;
        counts = refl;
        says = λ before b. knows-line before b.room filter (name_of s device) device (known _ before b device within) (decimal picture) (version_text s v) picture v (picture-said picture p) (version-said s before v good (known _ before b (device_of_author v.author) fits.maker) fits);
      })

  -- Lines with a filter

  narrow : (device : ℕ) (filter : Tree) → device < length s.names → FitsFilter filter → (let x = command.Narrow device filter in IsShort (line_of_command s x) → IsLineOf s x (line_of_command s x))
  unfolding line_of_command
  narrow device filter within fits short =
      filter-line s (command.Narrow device filter) (codes "narrow") (name_of s device) filter (word (codes "narrow") refl refl) (field device within) fits short (λ first more. record {
        no_name = refl;
        no_filter = refl;
        makes = refl;
        counts = refl;
        says = λ before b. narrow-line before b.room (text_of filter) (name_of s device) device (known _ before b device within) first more filter fits;
      })

  refilter : (device : ℕ) (filter : Tree) → device < length s.names → FitsFilter filter → (let x = command.Refilter device filter in IsShort (line_of_command s x) → IsLineOf s x (line_of_command s x))
  unfolding line_of_command
  refilter device filter within fits short =
      filter-line s (command.Refilter device filter) (codes "refilter") (name_of s device) filter (word (codes "refilter") refl refl) (field device within) fits short (λ first more. record {
        no_name = refl;
        no_filter = refl;
        makes = refl;
        counts = refl;
        says = λ before b. refilter-line before b.room (text_of filter) (name_of s device) device (known _ before b device within) first more filter fits;
      })

  -- the line of each kind of command
  pub command-line : (x : Command) → IsWithin (length s.names) x → IfSome (record_of x) IsInRange → FitsCommand s x → HasValues x → IsShort (line_of_command s x) → IsLineOf s x (line_of_command s x)
  command-line (command.New device picture (content.Picture rating day words)) within range fits has short = new device picture rating day words within.0 has.0 range.rating range.day has.1 fits short
  command-line (command.New device picture content.Removed) within range fits has short = absurd fits
  command-line (command.Edit device picture (content.Picture rating day words)) within range fits has short = edit device picture rating day words within.0 has.0 range.rating range.day has.1 fits short
  command-line (command.Edit device picture content.Removed) within range fits has short = absurd fits
  command-line (command.Remove device picture) within range fits has short = remove device picture within.0 has short
  command-line (command.Pull target source) within range fits has short = pull target source within.0 within.1.0 within.1.1 short
  command-line (command.Narrow device filter) within range fits has short = narrow device filter within.0 fits short
  command-line (command.Refilter device filter) within range fits has short = refilter device filter within.0 fits short
  command-line (command.Preview target source) within range fits has short = preview target source within.0 within.1.0 within.1.1 short
  command-line (command.List device) within range fits has short = list device within.0 short
  command-line (command.Conflicts device) within range fits has short = conflicts device within.0 short
  command-line (command.Knowledge device) within range fits has short = knowledge device within.0 short
  command-line (command.Knows device picture v) within range fits has short = knows device picture v within.0 has fits short
