-- What a line says that asks what a device knows.
use Rattle.std.proofs.Common.{◌≡◌, ◌∷◌, ◌<◌, ℕ, List, [], Some, Ok, Err}
use Rattle.std.proofs.lemmas.Bool.{lt-leb}
use Rattle.photo_version.specs.Version.{Version}
use Rattle.fleet_model.specs.Limits.{max_commands}
use Rattle.script_reader.specs.Earlier.{Earlier}
use Rattle.script_reader.specs.Steps.{first_said}
use Rattle.script_reader.specs.Saying.{knowledge_line_said, knows_line_said, question_said, version_said, command_said, device_said, picture_said}
use Rattle.fleet_model.specs.declared.command.Command.TheVariants as command
use Rattle.script_reader.specs.declared.fault.LineFault.{LineFault}
use Rattle.script_reader.proofs.Commands.{first-refused}

pub knowledge_line-said : (before : Earlier) (name : List ℕ) (device : ℕ) → before.commands < max_commands → Ok device ≡ device_said before name
    → knowledge_line_said before (name ∷ []) ≡ Ok (Some (command.Knowledge device))
unfolding knowledge_line_said command_said
knowledge_line-said before name device room known = rw (lt-leb max_commands before.commands room, ← known)

pub knows_line-said : (before : Earlier) (name picture text : List ℕ) (device number : ℕ) (v : Version) → before.commands < max_commands
    → Ok device ≡ device_said before name → Ok number ≡ picture_said picture → Ok v ≡ version_said before text
    → knows_line_said before (name ∷ picture ∷ text ∷ []) ≡ Ok (Some (command.Knows device number v))
unfolding knows_line_said command_said question_said
knows_line-said before name picture text device number v room known read said = rw (lt-leb max_commands before.commands room, ← known, ← read, ← said)

pub knowledge_line-first : (before : Earlier) (name : List ℕ) (f : LineFault) → Err f ≡ first_said before name → knowledge_line_said before (name ∷ []) ≡ Err f
unfolding knowledge_line_said
knowledge_line-first before name f e = first-refused before name f (λ device. Ok (command.Knowledge device)) e

pub knows_line-first : (before : Earlier) (name picture text : List ℕ) (f : LineFault) → Err f ≡ first_said before name → knows_line_said before (name ∷ picture ∷ text ∷ []) ≡ Err f
unfolding knows_line_said question_said
knows_line-first before name picture text f e = first-refused before name f _ e

pub knows_line-picture : (before : Earlier) (name picture text : List ℕ) (device : ℕ) (f : LineFault) → before.commands < max_commands → Ok device ≡ device_said before name → Err f ≡ picture_said picture
    → knows_line_said before (name ∷ picture ∷ text ∷ []) ≡ Err f
unfolding knows_line_said command_said question_said
knows_line-picture before name picture text device f room known e = rw (lt-leb max_commands before.commands room, ← known, ← e)

pub knows_line-version : (before : Earlier) (name picture text : List ℕ) (device number : ℕ) (f : LineFault) → before.commands < max_commands → Ok device ≡ device_said before name → Ok number ≡ picture_said picture
    → Err f ≡ version_said before text → knows_line_said before (name ∷ picture ∷ text ∷ []) ≡ Err f
unfolding knows_line_said command_said question_said
knows_line-version before name picture text device number f room known read e = rw (lt-leb max_commands before.commands room, ← known, ← read, ← e)
