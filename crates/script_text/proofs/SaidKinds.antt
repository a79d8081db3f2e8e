-- What each kind of line says, by what its fields say.
use Rattle.std.proofs.Common.{◌≡◌, ℕ, ◌<◌, ◌≤◌, true, false, eqb, List, [], ◌∷◌, length, Some, None, Ok, codes, ap}
use Rattle.std.proofs.lemmas.Bool.{lt-leb, le-ltb}
use Rattle.photo_record.specs.declared.record.Record.{Record}
use Rattle.photo_filter_text.specs.Tree.{Tree}
use Rattle.photo_filter_rules.specs.Filters.{IsFilterOf}
use Rattle.photo_filter_rules.proofs.Found.{found}
use Rattle.photo_version.specs.Version.{Version}
use Rattle.script_reader.specs.Earlier.{Earlier}
use Rattle.script_reader.specs.Fields.{is_name, place_of}
use Rattle.fleet_model.specs.Limits.{max_devices, max_commands}
use Rattle.script_reader.specs.Saying.{or_fault, device_said, new_picture_said, record_said, filter_said, declaration_said, device_line_said, command_said, creation_said, new_line_said, picture_said, edition_said, edit_line_said, removal_said, remove_line_said, two_said, two_devices_said, pull_line_said, preview_line_said, filtering_said, device_and_filter_said, narrow_line_said, refilter_line_said, list_line_said, conflicts_line_said, version_said, knowledge_line_said, question_said, knows_line_said, question_line_said, command_line_said, fields_said}
use Rattle.fleet_model.specs.declared.command.Command.TheVariants as command
use Rattle.script_reader.specs.declared.fault.LineFault.TheVariants as fault

filter-said : (text : List ℕ) (tree : Tree) → IsFilterOf text tree → filter_said text ≡ Ok tree
unfolding filter_said
filter-said text tree is = ap (λ o. or_fault o fault.BadFilter) ((found text tree).1 is)

pub device-line : (before : Earlier) (name first : List ℕ) (more : List (List ℕ)) (filter : List ℕ) (tree : Tree) → before.commands ≤ 0 → length before.names < max_devices → is_name name ≡ true → place_of before.names name ≡ None → IsFilterOf filter tree
    → fields_said before (codes "device" ∷ name ∷ first ∷ more) filter ≡ Ok None
unfolding fields_said device_line_said declaration_said
device-line before name first more filter tree early room good fresh is =
    rw (le-ltb 0 before.commands early, lt-leb max_devices (length before.names) room, good, fresh, filter-said filter tree is)

module _ (before : Earlier) (room : before.commands < max_commands) (filter : List ℕ) (name : List ℕ) (device : ℕ) (known : Ok device ≡ device_said before name) where
  pub new-line : (picture rating date words : List ℕ) (number : ℕ) (r : Record) → Ok number ≡ new_picture_said before picture → record_said rating date words ≡ Ok r
      → fields_said before (codes "new" ∷ name ∷ picture ∷ rating ∷ date ∷ words ∷ []) filter ≡ Ok (Some (command.New device number r))
  unfolding fields_said command_line_said new_line_said command_said creation_said
  new-line picture rating date words number r fresh said = rw (lt-leb max_commands before.commands room, ← known, ← fresh, said)

  pub edit-line : (picture rating date words : List ℕ) (number : ℕ) (r : Record) → Ok number ≡ picture_said picture → record_said rating date words ≡ Ok r
      → fields_said before (codes "edit" ∷ name ∷ picture ∷ rating ∷ date ∷ words ∷ []) filter ≡ Ok (Some (command.Edit device number r))
  unfolding fields_said command_line_said edit_line_said command_said edition_said
  edit-line picture rating date words number r read said = rw (lt-leb max_commands before.commands room, ← known, ← read, said)

  pub remove-line : (picture : List ℕ) (number : ℕ) → Ok number ≡ picture_said picture → fields_said before (codes "remove" ∷ name ∷ picture ∷ []) filter ≡ Ok (Some (command.Remove device number))
  unfolding fields_said command_line_said remove_line_said command_said removal_said
  remove-line picture number read = rw (lt-leb max_commands before.commands room, ← known, ← read)

  pub pull-line : (source : List ℕ) (second : ℕ) → Ok second ≡ device_said before source → eqb device second ≡ false → fields_said before (codes "pull" ∷ name ∷ source ∷ []) filter ≡ Ok (Some (command.Pull device second))
  unfolding fields_said command_line_said pull_line_said two_devices_said two_said
  pull-line source second other apart = rw (lt-leb max_commands before.commands room, ← known, ← other, apart)

  pub preview-line : (source : List ℕ) (second : ℕ) → Ok second ≡ device_said before source → eqb device second ≡ false → fields_said before (codes "preview" ∷ name ∷ source ∷ []) filter ≡ Ok (Some (command.Preview device second))
  unfolding fields_said command_line_said question_line_said preview_line_said two_devices_said two_said
  preview-line source second other apart = rw (lt-leb max_commands before.commands room, ← known, ← other, apart)

  pub narrow-line : (first : List ℕ) (more : List (List ℕ)) (tree : Tree) → IsFilterOf filter tree → fields_said before (codes "narrow" ∷ name ∷ first ∷ more) filter ≡ Ok (Some (command.Narrow device tree))
  unfolding fields_said command_line_said narrow_line_said device_and_filter_said filtering_said
  narrow-line first more tree is = rw (lt-leb max_commands before.commands room, ← known, filter-said filter tree is)

  pub refilter-line : (first : List ℕ) (more : List (List ℕ)) (tree : Tree) → IsFilterOf filter tree → fields_said before (codes "refilter" ∷ name ∷ first ∷ more) filter ≡ Ok (Some (command.Refilter device tree))
  unfolding fields_said command_line_said refilter_line_said device_and_filter_said filtering_said
  refilter-line first more tree is = rw (lt-leb max_commands before.commands room, ← known, filter-said filter tree is)

  pub list-line : fields_said before (codes "list" ∷ name ∷ []) filter ≡ Ok (Some (command.List device))
  unfolding fields_said command_line_said question_line_said list_line_said command_said
  list-line = rw (lt-leb max_commands before.commands room, ← known)

  pub conflicts-line : fields_said before (codes "conflicts" ∷ name ∷ []) filter ≡ Ok (Some (command.Conflicts device))
  unfolding fields_said command_line_said question_line_said conflicts_line_said command_said
  conflicts-line = rw (lt-leb max_commands before.commands room, ← known)

  pub knowledge-line : fields_said before (codes "knowledge" ∷ name ∷ []) filter ≡ Ok (Some (command.Knowledge device))
  unfolding fields_said command_line_said question_line_said knowledge_line_said command_said
  knowledge-line = rw (lt-leb max_commands before.commands room, ← known)

  pub knows-line : (picture text : List ℕ) (number : ℕ) (v : Version) → Ok number ≡ picture_said picture → version_said before text ≡ Ok v
      → fields_said before (codes "knows" ∷ name ∷ picture ∷ text ∷ []) filter ≡ Ok (Some (command.Knows device number v))
  unfolding fields_said command_line_said question_line_said knows_line_said command_said question_said
  knows-line picture text number v read said = rw (lt-leb max_commands before.commands room, ← known, ← read, said)
