-- An accepted script declares different names, and makes each picture once.
use Rattle.std.proofs.Common.{◌≡◌, ◌⊎◌, inl, inr, ℕ, ◌+◌, ◌≤◌, Bool, true, false, cond, not, ◌&&◌, ltb, leb, List, [], ◌∷◌, ◌++◌, length, Option, Some, None, Result, Ok, Err, codes, refl, sym, ap, subst, ◌∙◌, append_assoc, arith}
use Rattle.std.specs.List.{AllByRecursion, list_any, position_or_len}
use Rattle.std.specs.Option.{is_some, option_to_list}
use Rattle.std.specs.Str.{bytes_eq}
use Rattle.std.proofs.lemmas.Bool.{ltb-false, not-false}
use Rattle.std.proofs.lemmas.List.{append-nil}
use Rattle.std.proofs.lemmas.List.Sums.{fails_before_first}
use Rattle.std.proofs.lemmas.List.Folds.{list_any_none}
use Rattle.std.proofs.lemmas.Slice.Eq.{bytes_eq-Decides}
use Rattle.script_reader.specs.Earlier.{Earlier, earlier, declared_by, made_by, names_of, pictures_of}
use Rattle.script_reader.specs.Fields.{is_word, is_name, is_decimal, is_picture, number_of, picture_of, place_of}
use Rattle.script_reader.specs.Lines.{fields_of, third_field_on}
use Rattle.fleet_model.specs.Limits.{max_devices, max_commands}
use Rattle.script_reader.specs.Limits.{max_line_bytes}
use Rattle.script_reader.specs.Reading.{sayings, with_front, commands_said}
use Rattle.script_reader.specs.Saying.{◌>>=◌, or_fault, declaration_said, device_line_said, command_said, creation_said, new_line_said, device_said, new_picture_said, command_line_said, fields_said, said}
use Rattle.fleet_model.specs.declared.command.Command.{Command}
use Rattle.script_reader.specs.declared.fault.LineFault.{LineFault}
use Rattle.script_reader.specs.declared.fault.LineFault.TheVariants as fault
use Rattle.script_reader.specs.declared.fault.ScriptFault.{ScriptFault}
use Rattle.script_text.specs.Printable.{AllDiffer}
use Rattle.script_text.proofs.Adding.{names-more, pictures-more}
use Rattle.script_text.proofs.Differing.{differ-more, each-other, each-picture}

-- what lines say, step by step

pub bound : {A B : Type 0} (r : Result A LineFault) (f : A → Result B LineFault) (b : B) → (r >>= f) ≡ Ok b → (a : A) × (r ≡ Ok a) × (f a ≡ Ok b)
bound (Ok a) f b h = (a, refl, h)
bound (Err e) f b h = cc

pub passed : {A E : Type 0} (b : Bool) (e : E) (r : Result A E) (x : A) → cond b (Err e) r ≡ Ok x → (b ≡ false) × (r ≡ Ok x)
passed true e r x h = cc
passed false e r x h = (refl, h)

pub denoted : {A : Type 0} (o : Option A) (e : LineFault) (x : A) → or_fault o e ≡ Ok x → o ≡ Some x
denoted None e x h = cc
denoted (Some y) e x h = let same : y ≡ x = cc in ap Some same

pub some_if : {A : Type 0} (b : Bool) (x y : A) → cond b (Some x) None ≡ Some y → (b ≡ true) × (x ≡ y)
some_if true x y h = (refl, cc)
some_if false x y h = cc

none_if : {A : Type 0} (b : Bool) (x : A) → is_some (cond b (Some x) None) ≡ false → b ≡ false
none_if true x h = cc
none_if false x h = refl

-- the line declares no name, or a valid name that no earlier line declares
abbrev pub Declares : Earlier → List (List ℕ) → Type 0
Declares before fields = (declared_by fields ≡ []) ⊎ ((name : List ℕ) × (declared_by fields ≡ name ∷ []) × (is_name name ≡ true) × (list_any (bytes_eq name) before.names ≡ false))

-- the line makes no picture, or a picture that no earlier line makes
abbrev pub Makes : Earlier → List (List ℕ) → Type 0
Makes before fields = (made_by fields ≡ []) ⊎ ((p : ℕ) × (made_by fields ≡ p ∷ []) × (before.makes p ≡ false))

nowhere : (names : List (List ℕ)) (name : List ℕ) → is_some (place_of names name) ≡ false → list_any (bytes_eq name) names ≡ false
nowhere names name h =
    let at = position_or_len (bytes_eq name) names in
    let far : length names ≤ at = ltb-false at (length names) (none_if (ltb at (length names)) at h) in
    list_any_none (bytes_eq name) names (λ k d lt. fails_before_first (bytes_eq name) names k d (omega arith))

pub no-name : (word : List ℕ) (arguments : List (List ℕ)) → is_word word (codes "device") ≡ false → declared_by (word ∷ arguments) ≡ []
no-name word [] other = refl
no-name word (name ∷ more) other = rw other refl

pub no-picture : (word : List ℕ) (arguments : List (List ℕ)) → is_word word (codes "new") ≡ false → made_by (word ∷ arguments) ≡ []
no-picture word [] other = refl
no-picture word (device ∷ []) other = refl
no-picture word (device ∷ picture ∷ more) other = rw other refl

declares-device : (before : Earlier) (arguments : List (List ℕ)) (filter : List ℕ) (x : Option Command) → fields_said before (codes "device" ∷ arguments) filter ≡ Ok x → Declares before (codes "device" ∷ arguments)
unfolding fields_said device_line_said declaration_said
declares-device before [] filter x h = inl refl
declares-device before (name ∷ []) filter x h = let bad = (passed (ltb 0 before.commands) fault.LateDevice (Err fault.WrongFields) x h).1 in cc
declares-device before (name ∷ first ∷ more) filter x h =
    let late = passed (ltb 0 before.commands) fault.LateDevice _ x h in
    let room = passed (leb max_devices (length before.names)) fault.TooMany _ x late.1 in
    let good = passed (not (is_name name)) fault.BadName _ x room.1 in
    let fresh = passed (is_some (place_of before.names name)) fault.RepeatedDevice _ x good.1 in
    inr (name, refl, not-false (is_name name) good.0, nowhere before.names name fresh.0)

declares : (before : Earlier) (fields : List (List ℕ)) (filter : List ℕ) (x : Option Command) → fields_said before fields filter ≡ Ok x → Declares before fields
declares before [] filter x h = inl refl
declares before (word ∷ arguments) filter x h = by (is_word word (codes "device")) refl
  where
    by : (b : Bool) → is_word word (codes "device") ≡ b → Declares before (word ∷ arguments)
    by true e =
        let same : word ≡ codes "device" = (bytes_eq-Decides word (codes "device")).0 e in
        subst (λ w. Declares before (w ∷ arguments)) (sym same) (declares-device before arguments filter x (ap (λ w. fields_said before (w ∷ arguments) filter) (sym same) ∙ h))
    by false e = inl (no-name word arguments e)

makes-new : (before : Earlier) (arguments : List (List ℕ)) (filter : List ℕ) (x : Option Command) → fields_said before (codes "new" ∷ arguments) filter ≡ Ok x → Makes before (codes "new" ∷ arguments)
unfolding fields_said command_line_said new_line_said command_said creation_said new_picture_said
makes-new before [] filter x h = inl refl
makes-new before (name ∷ []) filter x h = inl refl
makes-new before (name ∷ picture ∷ []) filter x h = cc
makes-new before (name ∷ picture ∷ rating ∷ []) filter x h = cc
makes-new before (name ∷ picture ∷ rating ∷ date ∷ []) filter x h = cc
makes-new before (name ∷ picture ∷ rating ∷ date ∷ words ∷ []) filter x h =
    let room = passed (leb max_commands before.commands) fault.TooMany _ x h in
    let one = bound _ (λ (c : Command). Ok (Some c)) x room.1 in
    let device = bound (device_said before name) _ one.0 one.1 in
    let number = bound (new_picture_said before picture) _ one.0 device.2 in
    let found = bound (or_fault (picture_of picture) fault.BadNumber) _ number.0 number.1 in
    let same = some_if (is_decimal picture && is_picture (number_of picture)) (number_of picture) found.0 (denoted (picture_of picture) fault.BadNumber found.0 found.1) in
    let fresh = passed (before.makes found.0) fault.RepeatedPicture (Ok found.0) number.0 found.2 in
    inr (number_of picture, refl, ap before.makes same.1 ∙ fresh.0)
makes-new before (name ∷ picture ∷ rating ∷ date ∷ words ∷ more ∷ rest) filter x h = cc

makes : (before : Earlier) (fields : List (List ℕ)) (filter : List ℕ) (x : Option Command) → fields_said before fields filter ≡ Ok x → Makes before fields
makes before [] filter x h = inl refl
makes before (word ∷ arguments) filter x h = by (is_word word (codes "new")) refl
  where
    by : (b : Bool) → is_word word (codes "new") ≡ b → Makes before (word ∷ arguments)
    by true e =
        let same : word ≡ codes "new" = (bytes_eq-Decides word (codes "new")).0 e in
        subst (λ w. Makes before (w ∷ arguments)) (sym same) (makes-new before arguments filter x (ap (λ w. fields_said before (w ∷ arguments) filter) (sym same) ∙ h))
    by false e = inl (no-picture word arguments e)

-- a line that is read is short, and its fields state what it says
pub line-parts : (before : Earlier) (line : List ℕ) (x : Option Command) → said before line ≡ Ok x → (length line ≤ max_line_bytes) × (fields_said before (fields_of line) (third_field_on line) ≡ Ok x)
unfolding said
line-parts before line x h =
    let short = passed (ltb max_line_bytes (length line)) fault.LineTooLong _ x h in
    (ltb-false max_line_bytes (length line) short.0, short.1)

-- One line after another

pub record IsGood (lines : List (List ℕ)) : Type 0 where
  pub named : AllByRecursion (λ name. is_name name ≡ true) (names_of lines)
  pub apart : AllDiffer (names_of lines)
  pub made : AllDiffer (pictures_of lines)

named-more : (names : List (List ℕ)) (name : List ℕ) → AllByRecursion (λ n. is_name n ≡ true) names → is_name name ≡ true → AllByRecursion (λ n. is_name n ≡ true) (names ++ name ∷ [])
named-more [] name h good = (good, tt)
named-more (n ∷ ns) name h good = (h.0, named-more ns name h.1 good)

good-none : IsGood []
good-none = record { named = tt; apart = λ i j d lt within. absurd (omega arith); made = λ i j d lt within. absurd (omega arith) }

module _ (lines : List (List ℕ)) (line : List ℕ) (good : IsGood lines) where
  names-good : Declares (earlier lines) (fields_of line) → AllByRecursion (λ n. is_name n ≡ true) (names_of (lines ++ line ∷ [])) × AllDiffer (names_of (lines ++ line ∷ []))
  names-good (inl e) =
      let same : names_of (lines ++ line ∷ []) ≡ names_of lines = names-more lines line ∙ ap (λ ns. names_of lines ++ ns) e ∙ append-nil (names_of lines) in
      (subst (AllByRecursion (λ n. is_name n ≡ true)) (sym same) good.named, subst AllDiffer (sym same) good.apart)
  names-good (inr (name, e, is, none)) =
      let same : names_of (lines ++ line ∷ []) ≡ names_of lines ++ name ∷ [] = names-more lines line ∙ ap (λ ns. names_of lines ++ ns) e in
      (subst (AllByRecursion (λ n. is_name n ≡ true)) (sym same) (named-more (names_of lines) name good.named is), subst AllDiffer (sym same) (differ-more (names_of lines) name good.apart (each-other (names_of lines) name none)))

  pictures-good : Makes (earlier lines) (fields_of line) → AllDiffer (pictures_of (lines ++ line ∷ []))
  pictures-good (inl e) = subst AllDiffer (sym (pictures-more lines line ∙ ap (λ ps. pictures_of lines ++ ps) e ∙ append-nil (pictures_of lines))) good.made
  pictures-good (inr (p, e, fresh)) = subst AllDiffer (sym (pictures-more lines line ∙ ap (λ ps. pictures_of lines ++ ps) e)) (differ-more (pictures_of lines) p good.made (each-picture (pictures_of lines) p fresh))

  good-more : (x : Option Command) → said (earlier lines) line ≡ Ok x → IsGood (lines ++ line ∷ [])
  good-more x h =
      let fields = (line-parts (earlier lines) line x h).1 in
      let names = names-good (declares (earlier lines) (fields_of line) (third_field_on line) x fields) in
      record { named = names.0; apart = names.1; made = pictures-good (makes (earlier lines) (fields_of line) (third_field_on line) x fields) }

-- what the first line says, and what the others say
pub record FirstSaid (n : ℕ) (first : Result (Option Command) LineFault) (rest : List (Result (Option Command) LineFault)) (commands : List Command) : Type 0 where
  pub one : Option Command
  pub says : first ≡ Ok one
  pub others : List Command
  pub go_on : commands_said (n + 1) rest ≡ Ok others
  pub whole : option_to_list one ++ others ≡ commands

pub first-said : (n : ℕ) (first : Result (Option Command) LineFault) (rest : List (Result (Option Command) LineFault)) (commands : List Command) → commands_said n (first ∷ rest) ≡ Ok commands → FirstSaid n first rest commands
first-said n (Err e) rest commands h = cc
first-said n (Ok x) rest commands h = by (commands_said (n + 1) rest) refl h
  where
    by : (r : Result (List Command) ScriptFault) → commands_said (n + 1) rest ≡ r → with_front (option_to_list x) r ≡ Ok commands → FirstSaid n (Ok x) rest commands
    by (Err e) was k = cc
    by (Ok more) was k = record { one = x; says = refl; others = more; go_on = was; whole = cc }

good-all : (n : ℕ) (done more : List (List ℕ)) (commands : List Command) → IsGood done → commands_said n (sayings done more) ≡ Ok commands → IsGood (done ++ more)
good-all n done [] commands good h = subst IsGood (sym (append-nil done)) good
good-all n done (line ∷ more) commands good h =
    let f = first-said n (said (earlier done) line) (sayings (done ++ line ∷ []) more) commands h in
    subst IsGood (append_assoc done (line ∷ []) more) (good-all (n + 1) (done ++ line ∷ []) more f.others (good-more done line good f.one f.says) f.go_on)

-- the lines of an accepted script are good
pub accepted-good : (lines : List (List ℕ)) (commands : List Command) → commands_said 1 (sayings [] lines) ≡ Ok commands → IsGood lines
accepted-good lines commands h = good-all 1 [] lines commands good-none h
