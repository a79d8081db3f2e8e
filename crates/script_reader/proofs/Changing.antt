-- What a line says that changes a picture.
use Rattle.std.proofs.Common.{◌≡◌, ◌∷◌, ◌<◌, ℕ, List, [], Some, Ok, Err, refl}
use Rattle.std.proofs.lemmas.Bool.{lt-leb}
use Rattle.photo_record.specs.declared.record.Record.{Record}
use Rattle.fleet_model.specs.Limits.{max_commands}
use Rattle.script_reader.specs.Earlier.{Earlier}
use Rattle.script_reader.specs.Steps.{Refuses, first_said}
use Rattle.script_reader.specs.Saying.{edit_line_said, remove_line_said, edition_said, removal_said, command_said, device_said, picture_said, record_said}
use Rattle.fleet_model.specs.declared.command.Command.TheVariants as command
use Rattle.script_reader.specs.declared.fault.LineFault.{LineFault}
use Rattle.script_reader.specs.declared.refusal.Refusal.{Refusal}
use Rattle.script_reader.specs.declared.refusal.Refusal.TheVariants.{Memory, Fault}
use Rattle.script_reader.proofs.Commands.{first-refused}

-- five fields are an edition
pub edit_line-edition : (before : Earlier) (name picture rating date words : List ℕ)
    → edit_line_said before (name ∷ picture ∷ rating ∷ date ∷ words ∷ []) ≡ command_said before (edition_said before name picture (record_said rating date words))
unfolding edit_line_said
edit_line-edition before name picture rating date words = refl

pub edition-said : (before : Earlier) (name picture rating date words : List ℕ) (device number : ℕ) (r : Record) → before.commands < max_commands
    → Ok device ≡ device_said before name → Ok number ≡ picture_said picture → record_said rating date words ≡ Ok r
    → command_said before (edition_said before name picture (record_said rating date words)) ≡ Ok (Some (command.Edit device number r))
unfolding command_said edition_said
edition-said before name picture rating date words device number r room known read said = rw (lt-leb max_commands before.commands room, ← known, ← read, said)

pub remove_line-said : (before : Earlier) (name picture : List ℕ) (device number : ℕ) → before.commands < max_commands
    → Ok device ≡ device_said before name → Ok number ≡ picture_said picture
    → remove_line_said before (name ∷ picture ∷ []) ≡ Ok (Some (command.Remove device number))
unfolding remove_line_said command_said removal_said
remove_line-said before name picture device number room known read = rw (lt-leb max_commands before.commands room, ← known, ← read)

pub edition-first : (before : Earlier) (name picture rating date words : List ℕ) (f : LineFault) → Err f ≡ first_said before name
    → command_said before (edition_said before name picture (record_said rating date words)) ≡ Err f
unfolding edition_said
edition-first before name picture rating date words f e = first-refused before name f _ e

pub edition-picture : (before : Earlier) (name picture rating date words : List ℕ) (device : ℕ) (f : LineFault) → before.commands < max_commands → Ok device ≡ device_said before name → Err f ≡ picture_said picture
    → command_said before (edition_said before name picture (record_said rating date words)) ≡ Err f
unfolding command_said edition_said
edition-picture before name picture rating date words device f room known e = rw (lt-leb max_commands before.commands room, ← known, ← e)

pub edition-record : (before : Earlier) (name picture rating date words : List ℕ) (device number : ℕ) (e : Refusal) → before.commands < max_commands → Ok device ≡ device_said before name → Ok number ≡ picture_said picture
    → Refuses e (record_said rating date words) → Refuses e (command_said before (edition_said before name picture (record_said rating date words)))
unfolding command_said edition_said
edition-record before name picture rating date words device number Memory room known read refused = tt
edition-record before name picture rating date words device number (Fault f) room known read refused = rw (lt-leb max_commands before.commands room, ← known, ← read, refused)

pub remove_line-first : (before : Earlier) (name picture : List ℕ) (f : LineFault) → Err f ≡ first_said before name → remove_line_said before (name ∷ picture ∷ []) ≡ Err f
unfolding remove_line_said removal_said
remove_line-first before name picture f e = first-refused before name f _ e

pub remove_line-picture : (before : Earlier) (name picture : List ℕ) (device : ℕ) (f : LineFault) → before.commands < max_commands → Ok device ≡ device_said before name → Err f ≡ picture_said picture
    → remove_line_said before (name ∷ picture ∷ []) ≡ Err f
unfolding remove_line_said command_said removal_said
remove_line-picture before name picture device f room known e = rw (lt-leb max_commands before.commands room, ← known, ← e)
