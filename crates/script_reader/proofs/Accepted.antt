-- What is accepted as the text of a script is a script.
use Rattle.std.proofs.Common.{◌≡◌, ◌≢◌, ℕ, ℤ, ◌+◌, ◌-◌, ◌≤◌, ◌<◌, Bool, true, false, cond, not, ◌&&◌, eqb, leb, ltb, List, [], ◌∷◌, ◌++◌, length, Option, Some, None, Result, Ok, Err, codes, refl, sym, ap, subst, ◌∙◌, length-append, append_assoc, arith}
use Rattle.std.specs.Prelude.{IfSome}
use Rattle.std.specs.List.{AllByRecursion, position_or_len}
use Rattle.std.specs.Option.{is_some, option_to_list}
use Rattle.std.specs.Str.{is_utf8, bytes_eq}
use Rattle.std.proofs.lemmas.Bool.{ltb-true, leb-true, leb-false, eqb-true, eqb-false, and_parts}
use Rattle.std.proofs.lemmas.List.{append-nil}
use Rattle.photo_record.specs.Limits.{max_rating, IsDay}
use Rattle.photo_record.specs.Calendar.{is_date, day_number}
use Rattle.photo_record.specs.Reading.{rating_of_text, day_of_text, words_of_text, has_date_form, written_date}
use Rattle.photo_record.specs.declared.record.Record.{Record}
use Rattle.photo_record.specs.declared.record.Record.TheVariants as content
use Rattle.photo_record.proofs.DateLemmas.{day_number-in}
use Rattle.photo_filter_text.specs.Tree.{Tree}
use Rattle.photo_filter_rules.specs.Filters.{filter_of}
use Rattle.photo_filter_rules.specs.Matching.{IsInRange}
use Rattle.fleet_model.specs.Limits.{max_devices, max_commands}
use Rattle.script_reader.specs.Limits.{max_text_bytes, max_line_bytes}
use Rattle.script_reader.specs.Lines.{lines_of, fields_of, third_field_on}
use Rattle.script_reader.specs.Fields.{is_word, is_name, place_of}
use Rattle.script_reader.specs.Earlier.{Earlier, earlier, is_comment, declared_by, filter_declared_by, is_command, names_of, filters_of, commands_of}
use Rattle.script_reader.specs.Saying.{◌>>=◌, or_fault, word_set, device_said, new_picture_said, record_said, filter_said, declaration_said, device_line_said, command_said, creation_said, new_line_said, picture_said, edition_said, edit_line_said, removal_said, remove_line_said, two_said, two_devices_said, pull_line_said, preview_line_said, filtering_said, device_and_filter_said, narrow_line_said, refilter_line_said, list_line_said, conflicts_line_said, version_said, knowledge_line_said, question_said, knows_line_said, question_line_said, command_line_said, fields_said, said}
use Rattle.script_reader.specs.Reading.{sayings, with_front, commands_said, script_of_commands, script_of_lines, script_of}
use Rattle.fleet_model.specs.Contents.{Contents, contents, devices_of, IsWithin, record_of, IsScript}
use Rattle.script_reader.specs.Laws.{AcceptedAreScripts}
use Rattle.fleet_model.specs.declared.command.Command.{Command}
use Rattle.fleet_model.specs.declared.command.Command.TheVariants as command
use Rattle.script_reader.specs.declared.fault.LineFault.{LineFault}
use Rattle.script_reader.specs.declared.fault.LineFault.TheVariants as fault
use Rattle.script_reader.specs.declared.fault.ScriptFault.{ScriptFault}
use Rattle.script_reader.specs.declared.fault.ScriptFault.TheVariants.{TooLarge, NotUtf8}
use Rattle.script_reader.proofs.Commands.{no_name}
use Rattle.script_reader.proofs.Taken.{names_of-push, filters_of-push, commands_of-push}

-- what is said, step by step

pub bound : {A B : Type 0} (r : Result A LineFault) (f : A → Result B LineFault) (b : B) → (r >>= f) ≡ Ok b → (a : A) × (r ≡ Ok a) × (f a ≡ Ok b)
bound (Ok a) f b h = (a, refl, h)
bound (Err e) f b h = cc

pub passed : {A : Type 0} (b : Bool) (e : LineFault) (r : Result A LineFault) (x : A) → cond b (Err e) r ≡ Ok x → (b ≡ false) × (r ≡ Ok x)
passed true e r x h = cc
passed false e r x h = (refl, h)

denoted : {A : Type 0} (o : Option A) (e : LineFault) (x : A) → or_fault o e ≡ Ok x → o ≡ Some x
denoted None e x h = cc
denoted (Some y) e x h = let same : y ≡ x = cc in ap Some same

some_if : {A : Type 0} (b : Bool) (x y : A) → cond b (Some x) None ≡ Some y → (b ≡ true) × (x ≡ y)
some_if true x y h = (refl, cc)
some_if false x y h = cc

-- a declared device is one of so many
placed : (names : List (List ℕ)) (name : List ℕ) (k : ℕ) → place_of names name ≡ Some k → k < length names
placed names name k h =
    let at = position_or_len (bytes_eq name) names in
    let r = some_if (ltb at (length names)) at k h in
    let within : at < length names = ltb-true at (length names) r.0 in
    let same : at ≡ k = r.1 in
    omega arith

declared : (before : Earlier) (name : List ℕ) (k : ℕ) → device_said before name ≡ Ok k → k < length before.names
unfolding device_said
declared before name k h = placed before.names name k (denoted (place_of before.names name) fault.UnknownDevice k h)

few_stars : (text : List ℕ) (stars : ℕ) → rating_of_text text ≡ Some stars → stars ≤ max_rating
few_stars [] stars h = cc
few_stars (digit ∷ []) stars h =
    let r = some_if (leb 48 digit && leb (digit - 48) max_rating) (digit - 48) stars h in
    let few : digit - 48 ≤ max_rating = leb-true (digit - 48) max_rating (and_parts (leb 48 digit) (leb (digit - 48) max_rating) r.0).1 in
    let same : digit - 48 ≡ stars = r.1 in
    omega arith
few_stars (digit ∷ next ∷ more) stars h = cc

of_calendar : (text : List ℕ) (day : ℤ) → day_of_text text ≡ Some day → IsDay day
unfolding day_of_text
of_calendar text day h =
    let r = some_if (has_date_form text && is_date (written_date text)) (day_number (written_date text)) day h in
    subst IsDay r.1 (day_number-in (written_date text) (and_parts (has_date_form text) (is_date (written_date text)) r.0).1)

record_in_range : (rating date words : List ℕ) (r : Record) → record_said rating date words ≡ Ok r → IsInRange r
unfolding record_said
record_in_range rating date words r h =
    let stars = bound (or_fault (rating_of_text rating) fault.BadRating) _ r h in
    let day = bound (or_fault (day_of_text date) fault.BadDate) _ r stars.2 in
    let set = bound (or_fault (word_set (words_of_text words)) fault.BadKeyword) _ r day.2 in
    let same : content.Picture stars.0 day.0 set.0 ≡ r = cc in
    subst IsInRange same (record { rating = few_stars rating stars.0 (denoted (rating_of_text rating) fault.BadRating stars.0 stars.1); day = of_calendar date day.0 (denoted (day_of_text date) fault.BadDate day.0 day.1) })

-- a command that a line says

pub record IsGood (count : ℕ) (c : Command) : Type 0 where
  pub within : IsWithin count c
  pub in_range : IfSome (record_of c) IsInRange

record IsCommandOf (before : Earlier) (x : Option Command) : Type 0 where
  pub command : Command
  pub is : x ≡ Some command
  pub room : before.commands < max_commands
  pub good : IsGood (length before.names) command

one_more : (before : Earlier) (r : Result Command LineFault) (x : Option Command) → command_said before r ≡ Ok x → ((c : Command) → r ≡ Ok c → IsGood (length before.names) c) → IsCommandOf before x
unfolding command_said
one_more before r x h good =
    let p = passed (leb max_commands before.commands) fault.TooMany (r >>= λ c. Ok (Some c)) x h in
    let b = bound r (λ c. Ok (Some c)) x p.1 in
    let same : Some b.0 ≡ x = cc in
    record { command = b.0; is = sym same; room = leb-false max_commands before.commands p.0; good = good b.0 b.1 }

creation_good : (before : Earlier) (name picture : List ℕ) (rest : Result Record LineFault) (c : Command) → ((r : Record) → rest ≡ Ok r → IsInRange r) → creation_said before name picture rest ≡ Ok c → IsGood (length before.names) c
unfolding creation_said
creation_good before name picture rest c fits h =
    let device = bound (device_said before name) _ c h in
    let number = bound (new_picture_said before picture) _ c device.2 in
    let r = bound rest _ c number.2 in
    let same : command.New device.0 number.0 r.0 ≡ c = cc in
    subst (IsGood (length before.names)) same (record { within = (declared before name device.0 device.1, tt); in_range = fits r.0 r.1 })

edition_good : (before : Earlier) (name picture : List ℕ) (rest : Result Record LineFault) (c : Command) → ((r : Record) → rest ≡ Ok r → IsInRange r) → edition_said before name picture rest ≡ Ok c → IsGood (length before.names) c
unfolding edition_said
edition_good before name picture rest c fits h =
    let device = bound (device_said before name) _ c h in
    let number = bound (picture_said picture) _ c device.2 in
    let r = bound rest _ c number.2 in
    let same : command.Edit device.0 number.0 r.0 ≡ c = cc in
    subst (IsGood (length before.names)) same (record { within = (declared before name device.0 device.1, tt); in_range = fits r.0 r.1 })

removal_good : (before : Earlier) (name picture : List ℕ) (c : Command) → removal_said before name picture ≡ Ok c → IsGood (length before.names) c
unfolding removal_said
removal_good before name picture c h =
    let device = bound (device_said before name) _ c h in
    let number = bound (picture_said picture) _ c device.2 in
    let same : command.Remove device.0 number.0 ≡ c = cc in
    subst (IsGood (length before.names)) same (record { within = (declared before name device.0 device.1, tt); in_range = tt })

-- two devices of a command
record AreTwo (before : Earlier) (two : ℕ × ℕ) : Type 0 where
  pub room : before.commands < max_commands
  pub target : two.0 < length before.names
  pub source : two.1 < length before.names
  pub apart : two.1 ≢ two.0

are_two : (before : Earlier) (arguments : List (List ℕ)) (two : ℕ × ℕ) → two_devices_said before arguments ≡ Ok two → AreTwo before two
unfolding two_devices_said two_said
are_two before (target ∷ source ∷ []) two h =
    let p = passed (leb max_commands before.commands) fault.TooMany _ two h in
    let first = bound (device_said before target) _ two p.1 in
    let second = bound (device_said before source) _ two first.2 in
    let q = passed (eqb first.0 second.0) fault.SameDevice (Ok (first.0, second.0)) two second.2 in
    let apart : first.0 ≡ second.0 → ⊥ = eqb-false first.0 second.0 q.0 in
    let same : (first.0, second.0) ≡ two = cc in
    subst (AreTwo before) same (record {
      room = leb-false max_commands before.commands p.0;
      target = declared before target first.0 first.1;
      source = declared before source second.0 second.1;
      apart = λ e. apart (sym e);
    })
are_two before arguments two h = cc

-- the device of a command that has a filter
record IsNamed (before : Earlier) (device : ℕ) : Type 0 where
  pub room : before.commands < max_commands
  pub within : device < length before.names

is_named : (before : Earlier) (arguments : List (List ℕ)) (filter : List ℕ) (new : ℕ × Tree) → device_and_filter_said before arguments filter ≡ Ok new → IsNamed before new.0
unfolding device_and_filter_said filtering_said
is_named before [] filter new h = cc
is_named before (name ∷ []) filter new h = cc
is_named before (name ∷ first ∷ more) filter new h =
    let p = passed (leb max_commands before.commands) fault.TooMany _ new h in
    let device = bound (device_said before name) _ new p.1 in
    let tree = bound (filter_said filter) _ new device.2 in
    let same : (device.0, tree.0) ≡ new = cc in
    subst (λ (n : ℕ × Tree). IsNamed before n.0) same (record { room = leb-false max_commands before.commands p.0; within = declared before name device.0 device.1 })

question_good : (before : Earlier) (name picture text : List ℕ) (c : Command) → question_said before name picture text ≡ Ok c → IsGood (length before.names) c
unfolding question_said
question_good before name picture text c h =
    let device = bound (device_said before name) _ c h in
    let number = bound (picture_said picture) _ c device.2 in
    let v = bound (version_said before text) _ c number.2 in
    let same : command.Knows device.0 number.0 v.0 ≡ c = cc in
    subst (IsGood (length before.names)) same (record { within = (declared before name device.0 device.1, tt); in_range = tt })

-- by the kind of its line

new_good : (before : Earlier) (arguments : List (List ℕ)) (x : Option Command) → new_line_said before arguments ≡ Ok x → IsCommandOf before x
unfolding new_line_said
new_good before (name ∷ picture ∷ rating ∷ date ∷ words ∷ []) x h = one_more before _ x h (λ c. creation_good before name picture (record_said rating date words) c (record_in_range rating date words))
new_good before arguments x h = cc

edit_good : (before : Earlier) (arguments : List (List ℕ)) (x : Option Command) → edit_line_said before arguments ≡ Ok x → IsCommandOf before x
unfolding edit_line_said
edit_good before (name ∷ picture ∷ rating ∷ date ∷ words ∷ []) x h = one_more before _ x h (λ c. edition_good before name picture (record_said rating date words) c (record_in_range rating date words))
edit_good before arguments x h = cc

remove_good : (before : Earlier) (arguments : List (List ℕ)) (x : Option Command) → remove_line_said before arguments ≡ Ok x → IsCommandOf before x
unfolding remove_line_said
remove_good before (name ∷ picture ∷ []) x h = one_more before _ x h (removal_good before name picture)
remove_good before arguments x h = cc

of_two : (before : Earlier) (arguments : List (List ℕ)) (f : ℕ → ℕ → Command) (x : Option Command) → ((two : ℕ × ℕ) → AreTwo before two → IsGood (length before.names) (f two.0 two.1))
    → (two_devices_said before arguments >>= λ two. Ok (Some (f two.0 two.1))) ≡ Ok x → IsCommandOf before x
of_two before arguments f x good h =
    let two = bound (two_devices_said before arguments) (λ two. Ok (Some (f two.0 two.1))) x h in
    let are = are_two before arguments two.0 two.1 in
    let same : Some (f two.0.0 two.0.1) ≡ x = cc in
    record { command = f two.0.0 two.0.1; is = sym same; room = are.room; good = good two.0 are }

pull_good : (before : Earlier) (arguments : List (List ℕ)) (x : Option Command) → pull_line_said before arguments ≡ Ok x → IsCommandOf before x
unfolding pull_line_said
pull_good before arguments x h = of_two before arguments command.Pull x (λ two are. record { within = (are.target, (are.source, are.apart)); in_range = tt }) h

preview_good : (before : Earlier) (arguments : List (List ℕ)) (x : Option Command) → preview_line_said before arguments ≡ Ok x → IsCommandOf before x
unfolding preview_line_said
preview_good before arguments x h = of_two before arguments command.Preview x (λ two are. record { within = (are.target, (are.source, are.apart)); in_range = tt }) h

of_filter : (before : Earlier) (arguments : List (List ℕ)) (filter : List ℕ) (f : ℕ → Tree → Command) (x : Option Command) → ((new : ℕ × Tree) → IsNamed before new.0 → IsGood (length before.names) (f new.0 new.1))
    → (device_and_filter_said before arguments filter >>= λ new. Ok (Some (f new.0 new.1))) ≡ Ok x → IsCommandOf before x
of_filter before arguments filter f x good h =
    let new = bound (device_and_filter_said before arguments filter) (λ new. Ok (Some (f new.0 new.1))) x h in
    let named = is_named before arguments filter new.0 new.1 in
    let same : Some (f new.0.0 new.0.1) ≡ x = cc in
    record { command = f new.0.0 new.0.1; is = sym same; room = named.room; good = good new.0 named }

narrow_good : (before : Earlier) (arguments : List (List ℕ)) (filter : List ℕ) (x : Option Command) → narrow_line_said before arguments filter ≡ Ok x → IsCommandOf before x
unfolding narrow_line_said
narrow_good before arguments filter x h = of_filter before arguments filter command.Narrow x (λ new named. record { within = (named.within, tt); in_range = tt }) h

refilter_good : (before : Earlier) (arguments : List (List ℕ)) (filter : List ℕ) (x : Option Command) → refilter_line_said before arguments filter ≡ Ok x → IsCommandOf before x
unfolding refilter_line_said
refilter_good before arguments filter x h = of_filter before arguments filter command.Refilter x (λ new named. record { within = (named.within, tt); in_range = tt }) h

knows_good : (before : Earlier) (arguments : List (List ℕ)) (x : Option Command) → knows_line_said before arguments ≡ Ok x → IsCommandOf before x
unfolding knows_line_said
knows_good before (name ∷ picture ∷ text ∷ []) x h = one_more before _ x h (question_good before name picture text)
knows_good before arguments x h = cc

-- a command that names a device alone
asked : (before : Earlier) (name : List ℕ) (f : ℕ → Command) (x : Option Command) → ((k : ℕ) → k < length before.names → IsGood (length before.names) (f k)) → command_said before (device_said before name >>= λ device. Ok (f device)) ≡ Ok x → IsCommandOf before x
asked before name f x good h = one_more before (device_said before name >>= λ device. Ok (f device)) x h (λ c said.
    let device = bound (device_said before name) (λ k. Ok (f k)) c said in
    let same : f device.0 ≡ c = cc in
    subst (IsGood (length before.names)) same (good device.0 (declared before name device.0 device.1)))

list_good : (before : Earlier) (arguments : List (List ℕ)) (x : Option Command) → list_line_said before arguments ≡ Ok x → IsCommandOf before x
unfolding list_line_said
list_good before (name ∷ []) x h = asked before name command.List x (λ k in_names. record { within = (in_names, tt); in_range = tt }) h
list_good before arguments x h = cc

conflicts_good : (before : Earlier) (arguments : List (List ℕ)) (x : Option Command) → conflicts_line_said before arguments ≡ Ok x → IsCommandOf before x
unfolding conflicts_line_said
conflicts_good before (name ∷ []) x h = asked before name command.Conflicts x (λ k in_names. record { within = (in_names, tt); in_range = tt }) h
conflicts_good before arguments x h = cc

knowledge_good : (before : Earlier) (arguments : List (List ℕ)) (x : Option Command) → knowledge_line_said before arguments ≡ Ok x → IsCommandOf before x
unfolding knowledge_line_said
knowledge_good before (name ∷ []) x h = asked before name command.Knowledge x (λ k in_names. record { within = (in_names, tt); in_range = tt }) h
knowledge_good before arguments x h = cc

either : {P : Type 0} {E : Type 0} {A : Type 0} (b : Bool) (r s : Result A E) (x : A) → cond b r s ≡ Ok x → (r ≡ Ok x → P) → (s ≡ Ok x → P) → P
either true r s x h one other = one h
either false r s x h one other = other h

any_question_good : (before : Earlier) (word : List ℕ) (arguments : List (List ℕ)) (x : Option Command) → question_line_said before word arguments ≡ Ok x → IsCommandOf before x
unfolding question_line_said
any_question_good before word arguments x h =
    either (is_word word (codes "preview")) _ _ x h (preview_good before arguments x) (λ h1.
    either (is_word word (codes "list")) _ _ x h1 (list_good before arguments x) (λ h2.
    either (is_word word (codes "conflicts")) _ _ x h2 (conflicts_good before arguments x) (λ h3.
    either (is_word word (codes "knowledge")) _ _ x h3 (knowledge_good before arguments x) (λ h4.
    either (is_word word (codes "knows")) _ _ x h4 (knows_good before arguments x) (λ h5. cc)))))

command_good : (before : Earlier) (word : List ℕ) (arguments : List (List ℕ)) (filter : List ℕ) (x : Option Command) → command_line_said before word arguments filter ≡ Ok x → IsCommandOf before x
unfolding command_line_said
command_good before word arguments filter x h =
    either (is_word word (codes "new")) _ _ x h (new_good before arguments x) (λ h2.
    either (is_word word (codes "edit")) _ _ x h2 (edit_good before arguments x) (λ h3.
    either (is_word word (codes "remove")) _ _ x h3 (remove_good before arguments x) (λ h4.
    either (is_word word (codes "pull")) _ _ x h4 (pull_good before arguments x) (λ h5.
    either (is_word word (codes "narrow")) _ _ x h5 (narrow_good before arguments filter x) (λ h6.
    either (is_word word (codes "refilter")) _ _ x h6 (refilter_good before arguments filter x) (any_question_good before word arguments x))))))

-- a line of these fields and this text from the third on, which says that
pub record IsTaken (before : Earlier) (fields : List (List ℕ)) (filter : List ℕ) (x : Option Command) : Type 0 where
  pub paired : length (filter_declared_by fields filter) ≡ length (declared_by fields)
  pub devices : length before.names ≤ max_devices → length before.names + length (declared_by fields) ≤ max_devices
  pub counted : length (option_to_list x) ≡ cond (is_command fields) 1 0
  pub commands : before.commands ≤ max_commands → before.commands + length (option_to_list x) ≤ max_commands
  pub good : AllByRecursion (IsGood (length before.names)) (option_to_list x)

silent : (before : Earlier) (word : List ℕ) (arguments : List (List ℕ)) (filter : List ℕ) → is_comment word ≡ true → is_word word (codes "device") ≡ false → IsTaken before (word ∷ arguments) filter None
silent before word arguments filter comment other =
    let names : declared_by (word ∷ arguments) ≡ [] = no_name word arguments other in
    record {
      paired = rw (other, names) refl;
      devices = λ few. rw names (omega arith);
      counted = rw comment refl;
      commands = λ few. omega arith;
      good = tt;
    }

runs : (before : Earlier) (word : List ℕ) (arguments : List (List ℕ)) (filter : List ℕ) (x : Option Command) → is_comment word ≡ false → is_word word (codes "device") ≡ false → IsCommandOf before x → IsTaken before (word ∷ arguments) filter x
runs before word arguments filter x text other c =
    let names : declared_by (word ∷ arguments) ≡ [] = no_name word arguments other in
    let room : before.commands < max_commands = c.room in
    subst (IsTaken before (word ∷ arguments) filter) (sym c.is) (record {
      paired = rw (other, names) refl;
      devices = λ few. rw names (omega arith);
      counted = rw (text, other) refl;
      commands = λ few. omega arith;
      good = (c.good, tt);
    })

declares : (before : Earlier) (word name first : List ℕ) (more : List (List ℕ)) (filter : List ℕ) (x : Option Command) → is_word word (codes "device") ≡ true → is_comment word ≡ false → declaration_said before name filter ≡ Ok x → IsTaken before (word ∷ name ∷ first ∷ more) filter x
unfolding declaration_said filter_said
declares before word name first more filter x device text h =
    let room = passed (leb max_devices (length before.names)) fault.TooMany _ x h in
    let good = passed (not (is_name name)) fault.BadName _ x room.1 in
    let fresh = passed (is_some (place_of before.names name)) fault.RepeatedDevice _ x good.1 in
    let tree = bound (or_fault (filter_of filter) fault.BadFilter) (λ t. Ok None) x fresh.1 in
    let found : filter_of filter ≡ Some tree.0 = denoted (filter_of filter) fault.BadFilter tree.0 tree.1 in
    let below : length before.names < max_devices = leb-false max_devices (length before.names) room.0 in
    let same : None ≡ x = cc in
    subst (IsTaken before (word ∷ name ∷ first ∷ more) filter) same (record {
      paired = rw (device, found) refl;
      devices = λ few. rw device (omega arith);
      counted = rw (text, device) refl;
      commands = λ few. omega arith;
      good = tt;
    })

-- a comment's first field is no word of the grammar
comment_is_none : (word : List ℕ) → is_comment word ≡ true → is_word word (codes "device") ≡ false
comment_is_none [] h = cc
comment_is_none (c ∷ cs) h = subst (λ (k : ℕ). is_word (k ∷ cs) (codes "device") ≡ false) (sym (eqb-true c 35 h)) refl

device_taken : (before : Earlier) (word : List ℕ) (arguments : List (List ℕ)) (filter : List ℕ) (x : Option Command) → is_word word (codes "device") ≡ true → is_comment word ≡ false → device_line_said before arguments filter ≡ Ok x → IsTaken before (word ∷ arguments) filter x
unfolding device_line_said
device_taken before word [] filter x device text h = let p = passed (ltb 0 before.commands) fault.LateDevice _ x h in let not_said = p.1 in cc
device_taken before word (name ∷ []) filter x device text h = let p = passed (ltb 0 before.commands) fault.LateDevice _ x h in let not_said = p.1 in cc
device_taken before word (name ∷ first ∷ more) filter x device text h =
    let p = passed (ltb 0 before.commands) fault.LateDevice _ x h in
    declares before word name first more filter x device text p.1

fields_taken : (before : Earlier) (fields : List (List ℕ)) (filter : List ℕ) (x : Option Command) → fields_said before fields filter ≡ Ok x → IsTaken before fields filter x
unfolding fields_said
fields_taken before [] filter x h =
    let same : None ≡ x = cc in
    subst (IsTaken before [] filter) same (record { paired = refl; devices = λ few. omega arith; counted = refl; commands = λ few. omega arith; good = tt })
fields_taken before (word ∷ arguments) filter x h = by (is_comment word) refl h
  where
    by_device : (b : Bool) → is_word word (codes "device") ≡ b → is_comment word ≡ false → cond b (device_line_said before arguments filter) (command_line_said before word arguments filter) ≡ Ok x → IsTaken before (word ∷ arguments) filter x
    by_device true is text h = device_taken before word arguments filter x is text h
    by_device false is text h = runs before word arguments filter x text is (command_good before word arguments filter x h)

    by : (b : Bool) → is_comment word ≡ b → cond b (Ok None) (cond (is_word word (codes "device")) (device_line_said before arguments filter) (command_line_said before word arguments filter)) ≡ Ok x → IsTaken before (word ∷ arguments) filter x
    by true is h = let same : None ≡ x = cc in subst (IsTaken before (word ∷ arguments) filter) same (silent before word arguments filter is (comment_is_none word is))
    by false is h = by_device (is_word word (codes "device")) refl is h

pub line_taken : (before : Earlier) (line : List ℕ) (x : Option Command) → said before line ≡ Ok x → IsTaken before (fields_of line) (third_field_on line) x
unfolding said
line_taken before line x h = fields_taken before (fields_of line) (third_field_on line) x (passed (ltb max_line_bytes (length line)) fault.LineTooLong _ x h).1

-- all lines

all_more : {X : Type 0} (P Q : X → Type 0) (xs ys : List X) → ((x : X) → P x → Q x) → AllByRecursion P xs → AllByRecursion Q ys → AllByRecursion Q (xs ++ ys)
all_more P Q [] ys weaker all others = others
all_more P Q (x ∷ xs) ys weaker all others = (weaker x all.0, all_more P Q xs ys weaker all.1 others)

second_among : (few more k : ℕ) (o : Option ℕ) → few ≤ more → IfSome o (λ second. (second < few) × (second ≢ k)) → IfSome o (λ second. (second < more) × (second ≢ k))
second_among few more k None longer h = tt
second_among few more k (Some second) longer h = let below : second < few = h.0 in (omega arith, h.1)

good_among : (few more : ℕ) (c : Command) → few ≤ more → IsGood few c → IsGood more c
good_among few more c longer g =
    let first : (devices_of c).0 < few = g.within.0 in
    record { within = (omega arith, second_among few more (devices_of c).0 (devices_of c).1 longer g.within.1); in_range = g.in_range }

-- lines say these commands, and are none too many
record AreFair (lines : List (List ℕ)) (commands : List Command) : Type 0 where
  pub paired : length (filters_of lines) ≡ length (names_of lines)
  pub devices : length (names_of lines) ≤ max_devices
  pub counted : length commands ≡ commands_of lines
  pub few : length commands ≤ max_commands
  pub good : AllByRecursion (IsGood (length (names_of lines))) commands

one_line : (lines : List (List ℕ)) (commands : List Command) (line : List ℕ) (x : Option Command) → AreFair lines commands → said (earlier lines) line ≡ Ok x → AreFair (lines ++ line ∷ []) (commands ++ option_to_list x)
one_line lines commands line x fair says =
    let t = line_taken (earlier lines) line x says in
    let names : length (names_of (lines ++ line ∷ [])) ≡ length (names_of lines) + length (declared_by (fields_of line)) = ap length (names_of-push lines line) ∙ length-append (names_of lines) (declared_by (fields_of line)) in
    let filters : length (filters_of (lines ++ line ∷ [])) ≡ length (filters_of lines) + length (filter_declared_by (fields_of line) (third_field_on line)) = ap length (filters_of-push lines line) ∙ length-append (filters_of lines) (filter_declared_by (fields_of line) (third_field_on line)) in
    let all : length (commands ++ option_to_list x) ≡ length commands + length (option_to_list x) = length-append commands (option_to_list x) in
    let counted : commands_of (lines ++ line ∷ []) ≡ commands_of lines + cond (is_command (fields_of line)) 1 0 = commands_of-push lines line in
    let longer : length (names_of lines) ≤ length (names_of (lines ++ line ∷ [])) = omega (arith, names) in
    record {
      paired = omega (arith, names, filters, fair.paired, t.paired);
      devices = let room = t.devices fair.devices in omega (arith, names, room);
      counted = omega (arith, all, counted, fair.counted, t.counted);
      few = let count : commands_of lines ≤ max_commands = omega (arith, fair.counted, fair.few) in let room = t.commands count in omega (arith, all, fair.counted, room);
      good = all_more (IsGood (length (names_of lines))) (IsGood (length (names_of (lines ++ line ∷ [])))) commands (option_to_list x) (λ c. good_among (length (names_of lines)) (length (names_of (lines ++ line ∷ []))) c longer) fair.good
          (subst (AllByRecursion (IsGood (length (names_of (lines ++ line ∷ []))))) (append-nil (option_to_list x)) (all_more (IsGood (length (names_of lines))) (IsGood (length (names_of (lines ++ line ∷ [])))) (option_to_list x) [] (λ c. good_among (length (names_of lines)) (length (names_of (lines ++ line ∷ []))) c longer) t.good tt));
    }

more_lines : (n : ℕ) (before rest : List (List ℕ)) (front commands : List Command) → AreFair before front → commands_said n (sayings before rest) ≡ Ok commands → AreFair (before ++ rest) (front ++ commands)
more_lines n before [] front commands fair h =
    let none : [] ≡ commands = cc in
    subst (λ c. AreFair (before ++ []) (front ++ c)) none (rw (append-nil before, append-nil front) fair)
more_lines n before (line ∷ more) front commands fair h = by (said (earlier before) line) refl h
    (λ x says others. more_lines (n + 1) (before ++ line ∷ []) more (front ++ option_to_list x) others (one_line before front line x fair says))
  where
    by_rest : (x : Option Command) (r : Result (List Command) ScriptFault) → commands_said (n + 1) (sayings (before ++ line ∷ []) more) ≡ r → with_front (option_to_list x) r ≡ Ok commands
        → ((others : List Command) → commands_said (n + 1) (sayings (before ++ line ∷ []) more) ≡ Ok others → AreFair ((before ++ line ∷ []) ++ more) ((front ++ option_to_list x) ++ others)) → AreFair (before ++ line ∷ more) (front ++ commands)
    by_rest x (Err e) is h goes = cc
    by_rest x (Ok others) is h goes =
        let same : option_to_list x ++ others ≡ commands = cc in
        let fair = goes others is in
        subst (λ c. AreFair (before ++ line ∷ more) c) (append_assoc front (option_to_list x) others ∙ ap (λ c. front ++ c) same)
        (subst (λ l. AreFair l ((front ++ option_to_list x) ++ others)) (append_assoc before (line ∷ []) more) fair)

    by : (s : Result (Option Command) LineFault) → said (earlier before) line ≡ s → commands_said n (s ∷ sayings (before ++ line ∷ []) more) ≡ Ok commands
        → ((x : Option Command) → said (earlier before) line ≡ Ok x → (others : List Command) → commands_said (n + 1) (sayings (before ++ line ∷ []) more) ≡ Ok others → AreFair ((before ++ line ∷ []) ++ more) ((front ++ option_to_list x) ++ others)) → AreFair (before ++ line ∷ more) (front ++ commands)
    by (Err e) is h goes = cc
    by (Ok x) is h goes = by_rest x (commands_said (n + 1) (sayings (before ++ line ∷ []) more)) refl h (goes x is)

within_all : (count : ℕ) (commands : List Command) → AllByRecursion (IsGood count) commands → AllByRecursion (IsWithin count) commands
within_all count [] all = tt
within_all count (c ∷ commands) all = (all.0.within, within_all count commands all.1)

in_range_all : (count : ℕ) (commands : List Command) → AllByRecursion (IsGood count) commands → AllByRecursion (λ c. IfSome (record_of c) IsInRange) commands
in_range_all count [] all = tt
in_range_all count (c ∷ commands) all = (all.0.in_range, in_range_all count commands all.1)

of_lines : (lines : List (List ℕ)) (script : Contents) → script_of_lines lines ≡ Ok script → IsScript script
of_lines lines script h = by (commands_said 1 (sayings [] lines)) refl h
  where
    by : (r : Result (List Command) ScriptFault) → commands_said 1 (sayings [] lines) ≡ r → script_of_commands (names_of lines) (filters_of lines) r ≡ Ok script → IsScript script
    by (Err e) is h = cc
    by (Ok commands) is h =
        let same : contents (names_of lines) (filters_of lines) commands ≡ script = cc in
        let fair : AreFair lines commands = more_lines 1 [] lines [] commands (record { paired = refl; devices = omega arith; counted = refl; few = omega arith; good = tt }) is in
        subst IsScript same (record {
          devices = fair.devices;
          filtered = fair.paired;
          commands = fair.few;
          known = within_all (length (names_of lines)) commands fair.good;
          in_range = in_range_all (length (names_of lines)) commands fair.good;
        })

pub accepted_are_scripts : AcceptedAreScripts
unfolding script_of
accepted_are_scripts text script h =
    let small = otherwise (ltb max_text_bytes (length text)) TooLarge _ script h in
    let utf8 = otherwise (not (is_utf8 text)) NotUtf8 _ script small in
    of_lines (lines_of text) script utf8
  where
    otherwise : {A : Type 0} (b : Bool) (e : ScriptFault) (r : Result A ScriptFault) (x : A) → cond b (Err e) r ≡ Ok x → r ≡ Ok x
    otherwise true e r x h = cc
    otherwise false e r x h = h
