-- Machinery of the proofs, cited by contracts of private functions only: they tie a reader's state to the definitions of lines,
-- where memory may be refused instead.
use Rattle.std.specs.Prelude.{◌≡◌, ◌<◌, ℕ, Bool, true, false, ◌||◌, ◌==◌, if◌then◌else◌, List, [], ◌∷◌, ◌++◌, length, take, map, Option, Some, None, option_to_list, Result, Ok, Err}
use Rattle.std.specs.Borrow.{Bor}
use Rattle.std.specs.BTreeSet.{contains}
use Rattle.std.specs.List.{list_any}
use Rattle.std.specs.Ordering.{nat_cmp}
use Rattle.fleet_model.specs.Contents.{Contents, contents}
use Rattle.script_reader.specs.Earlier.{Earlier, earlier, declared_by, filter_declared_by, made_by, is_command, names_of, filters_of, commands_of}
use Rattle.photo_record.specs.declared.record.Record.{Record}
use Rattle.fleet_model.specs.declared.command.Command.{Command}
use Rattle.fleet_model.specs.declared.command.Command.TheVariants as command
use Rattle.script_reader.specs.declared.reader.Reader.{Reader}
use Rattle.script_reader.specs.Saying.{with_room, device_said}
use Rattle.script_reader.specs.Reading.{sayings, commands_said}
use Rattle.script_reader.specs.declared.fault.LineFault.{LineFault}
use Rattle.script_reader.specs.declared.fault.ScriptFault.{ScriptFault}
use Rattle.script_reader.specs.declared.fault.ScriptFault.TheVariants as script
use Rattle.script_reader.specs.declared.refusal.Refusal.{Refusal}
use Rattle.script_reader.specs.declared.refusal.Refusal.TheVariants.{Memory, Fault}

abbrev pub fault_at : ℕ → Refusal → ScriptFault
fault_at line Memory = script.NoMemory
fault_at line (Fault fault) = script.Line line fault

-- the refusal is what the definition says, unless memory was refused
abbrev pub Refuses : {A : Type 0} → Refusal → Result A LineFault → Type 0
Refuses Memory said = Unit {0}
Refuses (Fault fault) said = said ≡ Err fault

-- the view of the answer is what the definition says, unless memory was refused
abbrev pub Gives : {A B : Type 0} → (A → B) → Result A Refusal → Result B LineFault → Type 0
Gives view (Ok x) said = said ≡ Ok (view x)
Gives view (Err e) said = Refuses e said

-- the context of the next line, by the reader's state
abbrev pub seen : Reader → Earlier
seen r = record { names = r.script.names; makes = λ p. contains nat_cmp r.pictures p; commands = length r.script.commands }

-- a reader has read one more line, which says `said`; `filter` is the line's text from the third field on
pub record Takes (old : Reader) (fields : List (List ℕ)) (filter : List ℕ) (said : Option Command) (new : Reader) : Type 0 where
  pub names : new.script.names ≡ old.script.names ++ declared_by fields
  pub filters : new.script.filters ≡ old.script.filters ++ filter_declared_by fields filter
  pub commands : new.script.commands ≡ old.script.commands ++ option_to_list said
  pub makes : (p : ℕ) → contains nat_cmp new.pictures p ≡ (contains nat_cmp old.pictures p || list_any (λ q. q == p) (made_by fields))
  pub counted : length (option_to_list said) ≡ (if is_command fields then 1 else 0)

-- a reader is as it was, apart from its cache of words
abbrev pub IsAsItWas : Reader → Reader → Type 0
IsAsItWas old new = (new.script ≡ old.script) × ((p : ℕ) → contains nat_cmp new.pictures p ≡ contains nat_cmp old.pictures p)

-- a reader has read the line, or it refuses the line as the definition does, and is as it was
abbrev pub Reads : Reader → List (List ℕ) → List ℕ → Result (Option Command) LineFault → Result (Unit {0}) Refusal → Reader → Type 0
Reads old fields filter said (Ok done) new = (x : Option Command) × (said ≡ Ok x) × Takes old fields filter x new
Reads old fields filter said (Err e) new = Refuses e said × IsAsItWas old new

-- a reader that has read no line
pub record IsFirst (r : Reader) : Type 0 where
  pub script : r.script ≡ contents [] [] []
  pub makes : (p : ℕ) → contains nat_cmp r.pictures p ≡ false

-- the place of a declared device, if there is room for one more command
unfoldable pub first_said : Earlier → List ℕ → Result ℕ LineFault
first_said before name = with_room before (device_said before name)

-- a reader has read a line of these fields, but hasn't appended its command yet
pub record Lacks (before : Reader) (fields : List (List ℕ)) (filter : List ℕ) (now : Reader) : Type 0 where
  pub script : now.script ≡ before.script
  pub no_name : declared_by fields ≡ []
  pub no_filter : filter_declared_by fields filter ≡ []
  pub makes : (p : ℕ) → contains nat_cmp now.pictures p ≡ (contains nat_cmp before.pictures p || list_any (λ q. q == p) (made_by fields))
  pub counts : is_command fields ≡ true

-- it then appends that command, unless memory was refused
abbrev pub TakesLast : Command → Reader → Result (Unit {0}) Refusal → Reader → Type 0
TakesLast command old result new = (before : Reader) (fields : List (List ℕ)) (filter : List ℕ) → Lacks before fields filter old → IsAsItWas before old → Reads before fields filter (Ok (Some command)) result new

-- the reader has read these lines, and none has a fault
pub record HasTaken (lines : List (List ℕ)) (r : Reader) : Type 0 where
  pub names : r.script.names ≡ names_of lines
  pub filters : r.script.filters ≡ filters_of lines
  pub makes : (p : ℕ) → contains nat_cmp r.pictures p ≡ (earlier lines).makes p
  pub counted : length r.script.commands ≡ commands_of lines
  pub said : commands_said 1 (sayings [] lines) ≡ Ok r.script.commands

-- the script has one more command, which makes the picture with that record
pub record HasMade (old : Contents) (device picture : ℕ) (said : Result Record LineFault) (new : Contents) : Type 0 where
  pub content : Record
  pub says : said ≡ Ok content
  pub script : new ≡ contents old.names old.filters (old.commands ++ command.New device picture content ∷ [])

-- the test `has`, but false of the picture that was made
abbrev pub without : Option ℕ → (ℕ → Bool) → ℕ → Bool
without None has p = has p
without (Some made) has p = if made == p then false else has p

-- one line has led from the reader `was`, which had these numbers of devices and commands, to `now`; it makes that picture. If
-- it declares a device, there were no commands
pub record Leads (was : Reader) (devices commands : ℕ) (made : Option ℕ) (now : Reader) : Type 0 where
  pub names : was.script.names ≡ take devices now.script.names
  pub filters : was.script.filters ≡ take devices now.script.filters
  pub commands_are : was.script.commands ≡ take commands now.script.commands
  pub makes : (p : ℕ) → contains nat_cmp was.pictures p ≡ without made (λ q. contains nat_cmp now.pictures q) p
  pub late : 0 < length was.script.commands → (now.script.names ≡ was.script.names) × (now.script.filters ≡ was.script.filters)

abbrev pub texts : List (Bor (List ℕ)) → List (List ℕ)
texts fields = map (λ f. f.now) fields
