-- Machinery of the proofs: the entry that a command adds to the log.
use Rattle.std.specs.Prelude.{Option, Some, None, is_some, List, [], if◌then◌else◌}
use Rattle.photo_record.specs.declared.record.Record.TheVariants.{Removed}
use Rattle.photo_model.specs.Entry.{Entry}
use Rattle.photo_model.specs.Device.{ModelDevice, new_entry}
use Rattle.fleet_model.specs.declared.command.Command.{Command}
use Rattle.fleet_model.specs.declared.command.Command.TheVariants as command
use Rattle.photo_script.specs.Reports.{Answer}
use Rattle.fleet_steps.specs.Issued.{version_told}

-- the entry of the version that the command makes on the device, provided that it isn't refused
abbrev pub entry_if_made : Command → ModelDevice → Option Entry
entry_if_made (command.New k picture content) d = Some (new_entry d picture content)
entry_if_made (command.Edit k picture content) d = Some (new_entry d picture content)
entry_if_made (command.Remove k picture) d = Some (new_entry d picture Removed)
entry_if_made (command.Pull target source) d = None
entry_if_made (command.Narrow k filter) d = None
entry_if_made (command.Refilter k filter) d = None
entry_if_made (command.Preview target source) d = None
entry_if_made (command.List k) d = None
entry_if_made (command.Conflicts k) d = None
entry_if_made (command.Knowledge k) d = None
entry_if_made (command.Knows k picture v) d = None

-- the list where the answer reports a version, and the empty list where it doesn't
abbrev pub if_told : {X : Type 0} → Answer → List X → List X
if_told answer xs = if is_some (version_told answer) then xs else []
