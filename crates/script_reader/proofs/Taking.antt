-- What a reader has after a line of each kind, and what the line says then.
use Rattle.std.proofs.Common.{◌≡◌, ◌≤◌, ◌<◌, ◌∷◌, ◌++◌, ℕ, List, [], length, Bool, true, false, cond, ◌||◌, eqb, codes, Option, Some, None, Result, Ok, Err, refl, sym, ap, subst, ◌∙◌, arith}
use Rattle.std.proofs.Math.Bool.{or-false}
use Rattle.std.specs.BTreeSet.{BTreeSet, contains, Updates}
use Rattle.std.specs.List.{list_any}
use Rattle.std.specs.Option.{is_some, option_to_list}
use Rattle.std.specs.Ordering.{nat_cmp, is_eq}
use Rattle.std.proofs.lemmas.Bool.{eqb-true, le-ltb, lt-leb}
use Rattle.std.proofs.lemmas.List.{append-nil}
use Rattle.std.proofs.lemmas.Bool.Decides.{nat_tests}
use Rattle.std.proofs.lemmas.Option.{cond_some}
use Rattle.photo_record.specs.declared.record.Record.{Record}
use Rattle.fleet_model.specs.Limits.{max_devices, max_commands}
use Rattle.fleet_model.specs.Contents.{contents}
use Rattle.script_reader.specs.Earlier.{Earlier, made_by}
use Rattle.photo_filter_text.specs.Tree.{Tree}
use Rattle.photo_filter_rules.specs.Filters.{filter_of}
use Rattle.script_reader.specs.Fields.{number_of, picture_of, is_name, place_of}
use Rattle.script_reader.specs.Steps.{Lacks, Refuses, Takes, first_said, seen}
use Rattle.script_reader.specs.Saying.{filter_said, device_line_said, declaration_said, list_line_said, new_line_said, command_said, creation_said, device_said, new_picture_said, record_said, or_fault, ◌>>=◌}
use Rattle.fleet_model.specs.declared.command.Command.TheVariants as command
use Rattle.script_reader.specs.declared.fault.LineFault.{LineFault}
use Rattle.script_reader.specs.declared.fault.LineFault.TheVariants as fault
use Rattle.script_reader.specs.declared.reader.Reader.{Reader}
use Rattle.script_reader.specs.declared.refusal.Refusal.{Refusal}
use Rattle.script_reader.specs.declared.refusal.Refusal.TheVariants.{Memory, Fault}
use Rattle.script_reader.proofs.Commands.{first-refused}

-- behind no command, a name and a filter are a declaration
pub device_line-declaration : (before : Earlier) (name : List ℕ) (others : List (List ℕ)) (filter : List ℕ) → before.commands ≤ 0 → 1 ≤ length others → device_line_said before (name ∷ others) filter ≡ declaration_said before name filter
unfolding device_line_said
device_line-declaration before name [] filter early some = absurd (omega arith)
device_line-declaration before name (first ∷ more) filter early some = rw (le-ltb 0 before.commands early)

pub declaration-said : (before : Earlier) (name filter : List ℕ) (tree : Tree) → length before.names < max_devices → is_name name ≡ true → is_some (place_of before.names name) ≡ false → filter_said filter ≡ Ok tree
    → declaration_said before name filter ≡ Ok None
unfolding declaration_said
declaration-said before name filter tree room good fresh said = rw (lt-leb max_devices (length before.names) room, good, fresh, said)

pub list_line-said : (before : Earlier) (name : List ℕ) (device : ℕ) → before.commands < max_commands → Ok device ≡ device_said before name
    → list_line_said before (name ∷ []) ≡ Ok (Some (command.List device))
unfolding list_line_said command_said
list_line-said before name device room known = rw (lt-leb max_commands before.commands room, ← known)

pub list_line-first : (before : Earlier) (name : List ℕ) (f : LineFault) → Err f ≡ first_said before name → list_line_said before (name ∷ []) ≡ Err f
unfolding list_line_said
list_line-first before name f e = first-refused before name f (λ device. Ok (command.List device)) e

-- five fields are a creation
pub new_line-creation : (before : Earlier) (name picture rating date words : List ℕ)
    → new_line_said before (name ∷ picture ∷ rating ∷ date ∷ words ∷ []) ≡ command_said before (creation_said before name picture (record_said rating date words))
unfolding new_line_said
new_line-creation before name picture rating date words = refl

pub creation-said : (before : Earlier) (name picture rating date words : List ℕ) (device number : ℕ) (r : Record) → before.commands < max_commands
    → Ok device ≡ device_said before name → Ok number ≡ new_picture_said before picture → record_said rating date words ≡ Ok r
    → command_said before (creation_said before name picture (record_said rating date words)) ≡ Ok (Some (command.New device number r))
unfolding command_said creation_said
creation-said before name picture rating date words device number r room known fresh said = rw (lt-leb max_commands before.commands room, ← known, ← fresh, said)

pub creation-first : (before : Earlier) (name picture rating date words : List ℕ) (f : LineFault) → Err f ≡ first_said before name
    → command_said before (creation_said before name picture (record_said rating date words)) ≡ Err f
unfolding creation_said
creation-first before name picture rating date words f e = first-refused before name f _ e

pub creation-picture : (before : Earlier) (name picture rating date words : List ℕ) (device : ℕ) (e : Refusal) → before.commands < max_commands → Ok device ≡ device_said before name → Refuses e (new_picture_said before picture)
    → Refuses e (command_said before (creation_said before name picture (record_said rating date words)))
unfolding command_said creation_said
creation-picture before name picture rating date words device Memory room known refused = tt
creation-picture before name picture rating date words device (Fault f) room known refused = rw (lt-leb max_commands before.commands room, ← known, refused)

pub creation-record : (before : Earlier) (name picture rating date words : List ℕ) (device number : ℕ) (e : Refusal) → before.commands < max_commands → Ok device ≡ device_said before name → Ok number ≡ new_picture_said before picture
    → Refuses e (record_said rating date words) → Refuses e (command_said before (creation_said before name picture (record_said rating date words)))
unfolding command_said creation_said
creation-record before name picture rating date words device number Memory room known fresh refused = tt
creation-record before name picture rating date words device number (Fault f) room known fresh refused = rw (lt-leb max_commands before.commands room, ← known, ← fresh, refused)

found-said : (o : Option Tree) (e : LineFault) (tree : Tree) → or_fault o e ≡ Ok tree → o ≡ Some tree
found-said None e tree h = cc
found-said (Some x) e tree h = cc

filter-found : (text : List ℕ) (tree : Tree) → filter_said text ≡ Ok tree → filter_of text ≡ Some tree
unfolding filter_said
filter-found text tree said = found-said (filter_of text) fault.BadFilter tree said

makes-none : (name : List ℕ) (more : List (List ℕ)) → made_by (codes "device" ∷ name ∷ more) ≡ []
makes-none name [] = refl
makes-none name (field ∷ more) = refl

-- a `device` line puts a name behind the others, and its filter behind theirs
pub takes_device : (old new : Reader) (name filter : List ℕ) (more : List (List ℕ)) (tree : Tree) → filter_said filter ≡ Ok tree
    → new.script ≡ contents (old.script.names ++ name ∷ []) (old.script.filters ++ tree ∷ []) old.script.commands → new.pictures ≡ old.pictures
    → Takes old (codes "device" ∷ name ∷ more) filter None new
takes_device old new name filter more tree said script pictures = record {
  names = ap (λ s. s.names) script;
  filters = ap (λ s. s.filters) script ∙ sym (ap (λ o. old.script.filters ++ option_to_list o) (filter-found filter tree said));
  commands = ap (λ s. s.commands) script ∙ sym (append-nil old.script.commands);
  makes = λ p.
      let had = contains nat_cmp old.pictures p in
      ap (λ s. contains nat_cmp s p) pictures ∙ sym (or-false had) ∙ ap (λ made. had || list_any (λ (q : ℕ). eqb q p) made) (sym (makes-none name more));
  counted = refl;
}

-- what comes of a field that denotes something
or_fault-ok : {A B : Type 0} (o : Option A) (e : LineFault) (f : A → Result B LineFault) (y : B) → Ok y ≡ (or_fault o e >>= f) → (x : A) × (o ≡ Some x) × (Ok y ≡ f x)
or_fault-ok None e f y h = cc
or_fault-ok (Some x) e f y h = (x, refl, h)

unless_true : {A : Type 0} (b : Bool) (e : LineFault) (x y : A) → Ok y ≡ cond b (Err e) (Ok x) → x ≡ y
unless_true true e x y h = cc
unless_true false e x y h = cc

pub number-said : (before : Earlier) (text : List ℕ) (number : ℕ) → Ok number ≡ new_picture_said before text → number_of text ≡ number
unfolding new_picture_said
number-said before text number said =
    let found = or_fault-ok (picture_of text) fault.BadNumber _ number said in
    let same : found.0 ≡ number = unless_true _ _ _ _ found.2 in
    (cond_some _ _ _ found.1).1 ∙ same

is_equal : (a b : ℕ) → is_eq (nat_cmp a b) ≡ eqb a b
is_equal a b = grind (arith, nat_tests)

or_last : (b x : Bool) → cond b true x ≡ (x || (b || false))
or_last true true = refl
or_last true false = refl
or_last false true = refl
or_last false false = refl

-- a `new` line, whose picture is put to the others first, lacks its command then
pub lacks_new : (old now : Reader) (name picture rating date words : List ℕ) (number : ℕ) → Ok number ≡ new_picture_said (seen old) picture
    → now.script ≡ old.script → Updates nat_cmp old.pictures now.pictures number true
    → Lacks old (codes "new" ∷ name ∷ picture ∷ rating ∷ date ∷ words ∷ []) [] now
lacks_new old now name picture rating date words number said script pictures = record {
  script = script;
  no_name = refl;
  no_filter = refl;
  makes = λ p.
      let had = contains nat_cmp old.pictures p in
      pictures.0 p ∙ ap (λ b. cond b true had) (is_equal number p) ∙ or_last (eqb number p) had ∙ ap (λ n. had || (eqb n p || false)) (sym (number-said (seen old) picture number said));
  counts = refl;
}

unless_false : {A : Type 0} (b : Bool) (e : LineFault) (x y : A) → Ok y ≡ cond b (Err e) (Ok x) → b ≡ false
unless_false true e x y h = cc
unless_false false e x y h = refl

pub picture-found : (before : Earlier) (text : List ℕ) (number : ℕ) → Ok number ≡ new_picture_said before text → picture_of text ≡ Some number
unfolding new_picture_said
picture-found before text number said =
    let found = or_fault-ok (picture_of text) fault.BadNumber _ number said in
    let same : found.0 ≡ number = unless_true _ _ _ _ found.2 in
    found.1 ∙ ap Some same

-- a picture that a line may make is made by none before it
pub is-fresh : (before : Earlier) (text : List ℕ) (number : ℕ) → Ok number ≡ new_picture_said before text → before.makes number ≡ false
unfolding new_picture_said
is-fresh before text number said =
    let found = or_fault-ok (picture_of text) fault.BadNumber _ number said in
    let same : found.0 ≡ number = unless_true _ _ _ _ found.2 in
    subst (λ n. before.makes n ≡ false) same (unless_false _ _ _ _ found.2)

-- so with it put to the others and removed again they are as they were
pub put_back : (old : Reader) (text : List ℕ) (number : ℕ) (with_it then without : BTreeSet ℕ) → Ok number ≡ new_picture_said (seen old) text
    → Updates nat_cmp old.pictures with_it number true → then ≡ with_it → Updates nat_cmp then without number false
    → (p : ℕ) → contains nat_cmp without p ≡ contains nat_cmp old.pictures p
put_back old text number with_it then without said put same removed p =
    let was : contains nat_cmp then p ≡ contains nat_cmp with_it p = ap (λ s. contains nat_cmp s p) same in
    by (is_eq (nat_cmp number p)) (is_equal number p) (removed.0 p) (was ∙ put.0 p)
  where
    by : (b : Bool) → b ≡ eqb number p → contains nat_cmp without p ≡ cond b false (contains nat_cmp then p) → contains nat_cmp then p ≡ cond b true (contains nat_cmp old.pictures p)
        → contains nat_cmp without p ≡ contains nat_cmp old.pictures p
    by true is gone put = gone ∙ sym (subst (λ n. contains nat_cmp old.pictures n ≡ false) (eqb-true number p (sym is)) (is-fresh (seen old) text number said))
    by false is kept put = kept ∙ put
