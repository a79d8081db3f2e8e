-- What comes of a line that says a command: its first device, its refusal, and the command behind the others.
use Rattle.std.proofs.Common.{◌≡◌, ◌∷◌, ◌++◌, ℕ, List, [], Bool, true, false, cond, ◌||◌, leb, eqb, Option, Some, Result, Ok, Err, codes, refl, sym, ap, subst, ◌∙◌}
use Rattle.std.proofs.Math.Bool.{or-false}
use Rattle.std.specs.BTreeSet.{contains}
use Rattle.std.specs.Result.{IsErrAnd}
use Rattle.std.specs.List.{list_any}
use Rattle.std.specs.Ordering.{nat_cmp}
use Rattle.std.proofs.lemmas.List.{append-nil}
use Rattle.std.proofs.lemmas.Result.{err_from_is_err_and}
use Rattle.fleet_model.specs.Limits.{max_commands}
use Rattle.fleet_model.specs.Contents.{contents}
use Rattle.script_reader.specs.Fields.{is_word}
use Rattle.script_reader.specs.Earlier.{Earlier, declared_by, filter_declared_by, made_by, is_command}
use Rattle.script_reader.specs.Saying.{with_room, command_said, device_said, ◌>>=◌}
use Rattle.script_reader.specs.Steps.{Gives, IsAsItWas, Lacks, Reads, Refuses, Takes, first_said}
use Rattle.fleet_model.specs.declared.command.Command.{Command}
use Rattle.script_reader.specs.declared.fault.LineFault.{LineFault}
use Rattle.script_reader.specs.declared.fault.LineFault.TheVariants.{TooMany}
use Rattle.script_reader.specs.declared.reader.Reader.{Reader}
use Rattle.script_reader.specs.declared.refusal.Refusal.{Refusal}
use Rattle.script_reader.specs.declared.refusal.Refusal.TheVariants.{Memory, Fault}

first-cases : (full : Bool) (d : Result ℕ LineFault) (f : LineFault) (next : ℕ → Result Command LineFault) → Err f ≡ cond full (Err TooMany) d → cond full (Err TooMany) ((d >>= next) >>= λ x. Ok (Some x)) ≡ Err f
first-cases true d f next e = cc
first-cases false (Ok x) f next e = cc
first-cases false (Err g) f next e = cc

-- where the first device is refused, so is the line
pub first-refused : (before : Earlier) (name : List ℕ) (f : LineFault) (next : ℕ → Result Command LineFault) → Err f ≡ first_said before name → command_said before (device_said before name >>= next) ≡ Err f
unfolding first_said command_said
first-refused before name f next e = first-cases (leb max_commands before.commands) (device_said before name) f next e

refuses-cases : {A : Type 0} (full : Bool) (d : Result ℕ LineFault) (f : LineFault) (next : ℕ → Result A LineFault) → Err f ≡ cond full (Err TooMany) d → cond full (Err TooMany) (d >>= next) ≡ Err f
refuses-cases true d f next e = cc
refuses-cases false (Ok x) f next e = cc
refuses-cases false (Err g) f next e = cc

-- and so is what a command needs
pub first-refuses : {A : Type 0} (before : Earlier) (name : List ℕ) (f : LineFault) (next : ℕ → Result A LineFault) → Err f ≡ first_said before name → with_room before (device_said before name >>= next) ≡ Err f
unfolding first_said
first-refuses before name f next e = refuses-cases (leb max_commands before.commands) (device_said before name) f next e

known-cases : (full : Bool) (d : Result ℕ LineFault) (device : ℕ) → Ok device ≡ cond full (Err TooMany) d → Ok device ≡ d
known-cases true d device e = cc
known-cases false d device e = e

pub first-known : (before : Earlier) (name : List ℕ) (device : ℕ) → Ok device ≡ first_said before name → Ok device ≡ device_said before name
unfolding first_said
first-known before name device e = known-cases (leb max_commands before.commands) (device_said before name) device e

reads-refused : (old new : Reader) (fields : List (List ℕ)) (filter : List ℕ) (said : Result (Option Command) LineFault) (r : Result (Unit {0}) Refusal) (e : Refusal) → r ≡ Err e → Refuses e said → IsAsItWas old new → Reads old fields filter said r new
reads-refused old new fields filter said r e is refused kept = subst (λ x. Reads old fields filter said x new) (sym is) (refused, kept)

-- what a `?` hands on: the same fault
pub hands-fault : {A : Type 0} (r : Result A LineFault) (f : LineFault) → IsErrAnd r (λ e. e ≡ f) → r ≡ Err f
hands-fault r f h = let p = err_from_is_err_and r h in p.1 ∙ ap (λ (e : LineFault). Err e) p.2

gives-refused : {A B : Type 0} (view : A → B) (r : Result A Refusal) (said : Result B LineFault) (e : Refusal) → r ≡ Err e → Refuses e said → Gives view r said
gives-refused view r said e is refused = subst (λ x. Gives view x said) (sym is) refused

-- a fault as a refusal
pub gives-fault : {A B : Type 0} (view : A → B) (r : Result A Refusal) (said : Result B LineFault) (f : LineFault) → IsErrAnd r (λ e. e ≡ Fault f) → said ≡ Err f → Gives view r said
gives-fault view r said f h is =
    let p = err_from_is_err_and r h in
    gives-refused view r said p.0 p.1 (subst (λ e. Refuses e said) (sym p.2) is)

-- the same refusal
pub gives-same : {A B : Type 0} (view : A → B) (r : Result A Refusal) (said : Result B LineFault) (e : Refusal) → IsErrAnd r (λ x. x ≡ e) → Refuses e said → Gives view r said
gives-same view r said e h refused =
    let p = err_from_is_err_and r h in
    gives-refused view r said p.0 p.1 (subst (λ x. Refuses x said) (sym p.2) refused)

-- and for a line: a fault, before anything has changed
pub reads-fault : (old : Reader) (fields : List (List ℕ)) (filter : List ℕ) (said : Result (Option Command) LineFault) (r : Result (Unit {0}) Refusal) (f : LineFault) → IsErrAnd r (λ e. e ≡ Fault f) → said ≡ Err f → Reads old fields filter said r old
reads-fault old fields filter said r f h is =
    let p = err_from_is_err_and r h in
    reads-refused old old fields filter said r p.0 p.1 (subst (λ e. Refuses e said) (sym p.2) is) (refl, λ p. refl)

-- the same refusal
pub reads-same : (old new : Reader) (fields : List (List ℕ)) (filter : List ℕ) (said : Result (Option Command) LineFault) (r : Result (Unit {0}) Refusal) (e : Refusal) → IsErrAnd r (λ x. x ≡ e) → Refuses e said → IsAsItWas old new → Reads old fields filter said r new
reads-same old new fields filter said r e h refused kept =
    let p = err_from_is_err_and r h in
    reads-refused old new fields filter said r p.0 p.1 (subst (λ x. Refuses x said) (sym p.2) refused) kept

-- and want of memory
pub reads-memory : (old new : Reader) (fields : List (List ℕ)) (filter : List ℕ) (said : Result (Option Command) LineFault) (r : Result (Unit {0}) Refusal) → IsErrAnd r (λ e. e ≡ Memory) → IsAsItWas old new → Reads old fields filter said r new
reads-memory old new fields filter said r h kept =
    let p = err_from_is_err_and r h in
    reads-refused old new fields filter said r p.0 p.1 (subst (λ e. Refuses e said) (sym p.2) tt) kept

-- a line that declares no device and makes no picture lacks but its command from the first
pub lacks-first : (r : Reader) (fields : List (List ℕ)) (filter : List ℕ) → declared_by fields ≡ [] → filter_declared_by fields filter ≡ [] → made_by fields ≡ [] → is_command fields ≡ true → Lacks r fields filter r
lacks-first r fields filter no_name no_filter no_picture counts = record {
  script = refl;
  no_name = no_name;
  no_filter = no_filter;
  makes = λ p.
      let had = contains nat_cmp r.pictures p in
      sym (or-false had) ∙ ap (λ made. had || list_any (λ (q : ℕ). eqb q p) made) (sym no_picture);
  counts = counts;
}

-- only `device` declares a device
pub no_name : (word : List ℕ) (arguments : List (List ℕ)) → is_word word (codes "device") ≡ false → declared_by (word ∷ arguments) ≡ []
no_name word [] other = refl
no_name word (name ∷ more) other = rw other refl

-- and only `new` makes a picture
pub no_picture : (word : List ℕ) (arguments : List (List ℕ)) → is_word word (codes "new") ≡ false → made_by (word ∷ arguments) ≡ []
no_picture word [] other = refl
no_picture word (device ∷ []) other = refl
no_picture word (device ∷ picture ∷ more) other = rw other refl

-- and whatever sets of words it keeps
pub lacks_with_sets : (before now : Reader) (sets : ℕ) (fields : List (List ℕ)) (filter : List ℕ) → Lacks before fields filter now → Lacks before fields filter (record now { words = sets })
lacks_with_sets before now sets fields filter lacks = record {
  script = lacks.script;
  no_name = lacks.no_name;
  no_filter = lacks.no_filter;
  makes = lacks.makes;
  counts = lacks.counts;
}

-- with its command behind the others a line is taken
pub last-taken : (before now new : Reader) (fields : List (List ℕ)) (filter : List ℕ) (x : Command) → Lacks before fields filter now
    → new.script ≡ contents now.script.names now.script.filters (now.script.commands ++ x ∷ []) → new.pictures ≡ now.pictures → Takes before fields filter (Some x) new
last-taken before now new fields filter x lacks script pictures = record {
  names = ap (λ s. s.names) (script) ∙ ap (λ s. s.names) lacks.script ∙ sym (append-nil before.script.names) ∙ ap (λ names. before.script.names ++ names) (sym lacks.no_name);
  filters = ap (λ s. s.filters) script ∙ ap (λ s. s.filters) lacks.script ∙ sym (append-nil before.script.filters) ∙ ap (λ filters. before.script.filters ++ filters) (sym lacks.no_filter);
  commands = ap (λ s. s.commands) script ∙ ap (λ s. s.commands ++ x ∷ []) lacks.script;
  makes = λ p. ap (λ s. contains nat_cmp s p) pictures ∙ lacks.makes p;
  counted = rw lacks.counts refl;
}
