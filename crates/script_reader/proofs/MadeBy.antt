-- What the fields of a line tell of the script with that line, where none has a fault.
use Rattle.std.proofs.Common.{◌≡◌, ◌<◌, ◌≤◌, ◌∷◌, ◌++◌, ℕ, zero, suc, List, [], length, take, Bool, true, false, cond, not, ◌||◌, eqb, leb, codes, Option, Some, None, Ok, refl, sym, ap, subst, ◌∙◌, length-append, arith}
use Rattle.std.proofs.Math.Bool.{or-false}
use Rattle.std.specs.BTreeSet.{contains}
use Rattle.std.specs.List.{list_any}
use Rattle.std.specs.Option.{option_to_list}
use Rattle.std.specs.Ordering.{nat_cmp}
use Rattle.std.proofs.lemmas.Bool.{and_parts, eqb-true, lt-ltb}
use Rattle.std.proofs.lemmas.List.{append-nil, take_at}
use Rattle.std.proofs.lemmas.Slice.Eq.{bytes_eq-Decides}
use Rattle.photo_filter_text.specs.Tree.{Tree}
use Rattle.fleet_model.specs.Limits.{max_commands}
use Rattle.fleet_model.specs.Contents.{Contents, contents}
use Rattle.fleet_model.specs.declared.command.Command.{Command}
use Rattle.script_reader.specs.Lines.{fields_of, third_field_on}
use Rattle.script_reader.specs.Fields.{is_word, picture_of}
use Rattle.script_reader.specs.Earlier.{Earlier, is_comment, declared_by, filter_declared_by, made_by, is_command}
use Rattle.script_reader.specs.Making.{made_number, second_picture}
use Rattle.script_reader.specs.Saying.{◌>>=◌, command_said, creation_said, device_said, fields_said, command_line_said, device_line_said, new_line_said, new_picture_said, record_said, said}
use Rattle.script_reader.specs.Steps.{Leads, Takes, seen, without}
use Rattle.script_reader.specs.Growing.{Grows}
use Rattle.script_reader.specs.declared.reader.Reader.{Reader}
use Rattle.script_reader.specs.declared.fault.LineFault.TheVariants as fault
use Rattle.script_reader.proofs.Accepted.{bound, passed, line_taken}
use Rattle.script_reader.proofs.Commands.{no_name, no_picture}
use Rattle.script_reader.proofs.Taking.{is-fresh, number-said, picture-found}

-- the picture that the fields make, which no line before them makes
pub record IsMade (before : Earlier) (fields : List (List ℕ)) : Type 0 where
  pub made : made_by fields ≡ option_to_list (made_number fields)
  pub fresh : (m : ℕ) → made_number fields ≡ Some m → before.makes m ≡ false

makes_none : (before : Earlier) (word : List ℕ) (arguments : List (List ℕ)) → is_word word (codes "new") ≡ false → IsMade before (word ∷ arguments)
makes_none before word arguments other =
    let none : made_number (word ∷ arguments) ≡ None = ap (λ b. cond b (second_picture arguments) None) other in
    record { made = no_picture word arguments other ∙ ap option_to_list (sym none); fresh = λ m is. cc }

creates : (before : Earlier) (arguments : List (List ℕ)) (filter : List ℕ) (x : Option Command) → fields_said before (codes "new" ∷ arguments) filter ≡ Ok x → IsMade before (codes "new" ∷ arguments)
unfolding fields_said command_line_said new_line_said command_said creation_said
creates before (name ∷ picture ∷ rating ∷ date ∷ words ∷ []) filter x h =
    let making = creation_said before name picture (record_said rating date words) in
    let room = passed (leb max_commands before.commands) fault.TooMany (making >>= λ c. Ok (Some c)) x h in
    let command = bound making (λ c. Ok (Some c)) x room.1 in
    let device = bound (device_said before name) _ command.0 command.1 in
    let number = bound (new_picture_said before picture) _ command.0 device.2 in
    let found : picture_of picture ≡ Some number.0 = picture-found before picture number.0 (sym number.1) in
    record {
      made = ap (λ n. n ∷ []) (number-said before picture number.0 (sym number.1)) ∙ ap option_to_list (sym found);
      fresh = λ m is. let same : number.0 ≡ m = cc in subst (λ n. before.makes n ≡ false) same (is-fresh before picture number.0 (sym number.1));
    }
creates before arguments filter x h = cc

pub is_made : (before : Earlier) (fields : List (List ℕ)) (filter : List ℕ) (x : Option Command) → fields_said before fields filter ≡ Ok x → IsMade before fields
is_made before [] filter x h = record { made = refl; fresh = λ m is. cc }
is_made before (word ∷ arguments) filter x h = by (is_word word (codes "new")) refl
  where
    by : (b : Bool) → is_word word (codes "new") ≡ b → IsMade before (word ∷ arguments)
    by false other = makes_none before word arguments other
    by true is =
        let same : word ≡ codes "new" = (bytes_eq-Decides word (codes "new")).0 is in
        subst (λ w. IsMade before (w ∷ arguments)) (sym same) (creates before arguments filter x (subst (λ w. fields_said before (w ∷ arguments) filter ≡ Ok x) same h))

-- the fields declare nothing
pub record DeclareNothing (fields : List (List ℕ)) (filter : List ℕ) : Type 0 where
  pub names : declared_by fields ≡ []
  pub filters : filter_declared_by fields filter ≡ []

other_word : (word : List ℕ) (arguments : List (List ℕ)) (filter : List ℕ) → is_word word (codes "device") ≡ false → DeclareNothing (word ∷ arguments) filter
other_word word arguments filter other = record { names = no_name word arguments other; filters = rw other refl }

-- no command declares a device
command_alone : (fields : List (List ℕ)) (filter : List ℕ) → is_command fields ≡ true → DeclareNothing fields filter
command_alone [] filter h = cc
command_alone (word ∷ arguments) filter h = by (is_word word (codes "device")) refl (and_parts (not (is_comment word)) (not (is_word word (codes "device"))) h).1
  where
    by : (b : Bool) → is_word word (codes "device") ≡ b → not b ≡ true → DeclareNothing (word ∷ arguments) filter
    by true is h = cc
    by false other h = other_word word arguments filter other

late-refused : (before : Earlier) (arguments : List (List ℕ)) (filter : List ℕ) (x : Option Command) → 0 < before.commands → fields_said before (codes "device" ∷ arguments) filter ≡ Ok x → ⊥
unfolding fields_said device_line_said
late-refused before arguments filter x some h =
    let late = rw (lt-ltb 0 before.commands some) at h in
    cc

-- behind a command nothing does
pub declares-late : (before : Earlier) (fields : List (List ℕ)) (filter : List ℕ) (x : Option Command) → 0 < before.commands → fields_said before fields filter ≡ Ok x → DeclareNothing fields filter
declares-late before [] filter x some h = record { names = refl; filters = refl }
declares-late before (word ∷ arguments) filter x some h = by (is_word word (codes "device")) refl
  where
    by : (b : Bool) → is_word word (codes "device") ≡ b → DeclareNothing (word ∷ arguments) filter
    by false other = other_word word arguments filter other
    by true is =
        let same : word ≡ codes "device" = (bytes_eq-Decides word (codes "device")).0 is in
        absurd (late-refused before arguments filter x some (subst (λ w. fields_said before (w ∷ arguments) filter ≡ Ok x) same h))

none_where_short : {X : Type 0} (old xs new : List X) → new ≡ old ++ xs → length new ≤ length old → xs ≡ []
none_where_short old [] new is short = refl
none_where_short old (x ∷ xs) new is short = absurd (let long = ap length is ∙ length-append old (x ∷ xs) in omega (arith, long))

same_contents : (c : Contents) (names : List (List ℕ)) (filters : List Tree) (commands : List Command) → c.names ≡ names → c.filters ≡ filters → c.commands ≡ commands → c ≡ contents names filters commands
same_contents c names filters commands n f m = λ i. contents (n i) (f i) (m i)

no_elements : {X : Type 0} (xs : List X) → length xs ≤ 0 → xs ≡ []
no_elements [] h = refl
no_elements (x ∷ xs) h = absurd (omega arith)

same_with : {X : Type 0} (new old xs : List X) → new ≡ old ++ xs → xs ≡ [] → new ≡ old
same_with new old xs is none = is ∙ ap (λ ys. old ++ ys) none ∙ append-nil old

counted : (b : Bool) → ◌≡◌ {A = ℕ} 1 (cond b 1 0) → b ≡ true
counted true h = refl
counted false h = absurd (omega arith)

not_later : (n : ℕ) → (0 < n → ⊥) → n ≤ 0
not_later zero h = omega arith
not_later (suc n) h = absurd (h (omega arith))

module _ (old new : Reader) (line : List ℕ) (x : Option Command) (says : said (seen old) line ≡ Ok x) (takes : Takes old (fields_of line) (third_field_on line) x new) where
  on_fields : fields_said (seen old) (fields_of line) (third_field_on line) ≡ Ok x
  unfolding said
  on_fields = (passed _ fault.LineTooLong _ x says).1

  grows-command : (y : Option Command) → x ≡ y → length old.script.commands < length new.script.commands → (c : Command) × (new.script ≡ contents old.script.names old.script.filters (old.script.commands ++ c ∷ []))
  grows-command None is more = absurd (let short = ap length (same_with new.script.commands old.script.commands _ takes.commands (ap option_to_list is)) in omega (arith, short))
  grows-command (Some c) is more =
      let counts : is_command (fields_of line) ≡ true = counted (is_command (fields_of line)) (ap (λ o. length (option_to_list o)) (sym is) ∙ takes.counted) in
      let alone = command_alone (fields_of line) (third_field_on line) counts in
      (c, same_contents new.script _ _ _ (same_with new.script.names old.script.names _ takes.names alone.names) (same_with new.script.filters old.script.filters _ takes.filters alone.filters) (takes.commands ∙ ap (λ o. old.script.commands ++ option_to_list o) is))

  no_commands : length old.script.names < length new.script.names → length old.script.commands ≤ 0
  no_commands more = not_later (length old.script.commands) (λ some.
      let alone = declares-late (seen old) (fields_of line) (third_field_on line) x some on_fields in
      let short = ap length (same_with new.script.names old.script.names _ takes.names alone.names) in
      omega (arith, short))

  -- what a line puts into a script is a command, a device or nothing
  pub grows : Grows old.script new.script
  grows = record {
    command = λ more. grows-command x refl more;
    device = λ same more.
        let none : length old.script.commands ≤ 0 = no_commands more in
        record { before = no_elements old.script.commands none; none = no_elements new.script.commands (omega arith) };
    nothing = λ same short.
        let no_name = none_where_short old.script.names (declared_by (fields_of line)) new.script.names takes.names short in
        let paired = (line_taken (seen old) line x says).paired in
        let no_filter = no_elements (filter_declared_by (fields_of line) (third_field_on line)) (let zero = ap length no_name in omega (arith, paired, zero)) in
        let no_command = none_where_short old.script.commands (option_to_list x) new.script.commands takes.commands same in
        same_contents new.script _ _ _ (same_with new.script.names old.script.names _ takes.names no_name) (same_with new.script.filters old.script.filters _ takes.filters no_filter) (same_with new.script.commands old.script.commands _ takes.commands no_command);
  }

  makes-without : (p : ℕ) (made : Option ℕ) → made ≡ made_number (fields_of line) → contains nat_cmp old.pictures p ≡ without made (λ q. contains nat_cmp new.pictures q) p
  makes-without p None is =
      let fields = is_made (seen old) (fields_of line) (third_field_on line) x on_fields in
      let none : made_by (fields_of line) ≡ [] = fields.made ∙ ap option_to_list (sym is) in
      sym (takes.makes p ∙ ap (λ made. contains nat_cmp old.pictures p || list_any (λ (q : ℕ). eqb q p) made) none ∙ or-false (contains nat_cmp old.pictures p))
  makes-without p (Some m) is =
      let fields = is_made (seen old) (fields_of line) (third_field_on line) x on_fields in
      let one : made_by (fields_of line) ≡ m ∷ [] = fields.made ∙ ap option_to_list (sym is) in
      let fresh : contains nat_cmp old.pictures m ≡ false = fields.fresh m (sym is) in
      let now = takes.makes p ∙ ap (λ made. contains nat_cmp old.pictures p || list_any (λ (q : ℕ). eqb q p) made) one in
      by (eqb m p) (λ is_p. subst (λ q. contains nat_cmp old.pictures q ≡ false) (eqb-true m p is_p) fresh) refl now
    where
      by : (b : Bool) → (b ≡ true → contains nat_cmp old.pictures p ≡ false) → eqb m p ≡ b → contains nat_cmp new.pictures p ≡ (contains nat_cmp old.pictures p || (b || false))
          → contains nat_cmp old.pictures p ≡ cond b false (contains nat_cmp new.pictures p)
      by true fresh is now = fresh refl
      by false fresh is now = sym (now ∙ or-false (contains nat_cmp old.pictures p))

  -- and it can be taken out again
  pub leads : (made : Option ℕ) → length old.script.filters ≡ length old.script.names → made ≡ made_number (fields_of line) → Leads old (length old.script.names) (length old.script.commands) made new
  leads made paired is = record {
    names = sym (ap (take (length old.script.names)) takes.names ∙ take_at old.script.names (declared_by (fields_of line)) (length old.script.names) refl);
    filters = sym (ap (take (length old.script.names)) takes.filters ∙ take_at old.script.filters (filter_declared_by (fields_of line) (third_field_on line)) (length old.script.names) paired);
    commands_are = sym (ap (take (length old.script.commands)) takes.commands ∙ take_at old.script.commands (option_to_list x) (length old.script.commands) refl);
    makes = λ p. makes-without p made is;
    late = λ some.
        let alone = declares-late (seen old) (fields_of line) (third_field_on line) x some on_fields in
        (same_with new.script.names old.script.names _ takes.names alone.names, same_with new.script.filters old.script.filters _ takes.filters alone.filters);
  }
