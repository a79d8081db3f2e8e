-- What a command adds to the log.
use Rattle.std.proofs.Common.{◌≡◌, ℕ, Bool, true, false, cond, List, [], ◌∷◌, ◌++◌, ap, refl, sym, ◌∙◌}
use Rattle.std.specs.Prelude.{Option, None, is_some}
use Rattle.std.specs.Option.{option_to_list}
use Rattle.std.proofs.lemmas.List.{map-append}
use Rattle.photo_record.specs.declared.record.Record.{Record}
use Rattle.photo_record.specs.declared.record.Record.TheVariants.{Removed}
use Rattle.photo_device.specs.declared.held.Held.{Held}
use Rattle.photo_model.specs.Entry.{Entry}
use Rattle.photo_device.specs.Held.{entry_of, entries_of}
use Rattle.photo_model.specs.Device.{ModelDevice, new_entry, is_held}
use Rattle.fleet_model.specs.declared.command.Command.{Command}
use Rattle.fleet_model.specs.declared.command.Command.TheVariants as command
use Rattle.fleet_model.specs.Answers.{NotHeld, Exactly}
use Rattle.photo_script.specs.Reports.{Answer, Tells}
use Rattle.fleet_model.specs.Contents.{devices_of}
use Rattle.fleet_model.specs.Runs.{making, telling, changing, device_at}
use Rattle.fleet_model.specs.Steps.{effect_on}
use Rattle.fleet_steps.specs.Issued.{version_told}
use Rattle.fleet_steps.proofs.Issued.{none_named}
use Rattle.live_fleet.specs.Entries.{entry_if_made, if_told}

-- a change logs its new entry where the answer reports a version
change_logs : (d : ModelDevice) (other : Option ModelDevice) (p : ℕ) (r : Record) (a : Answer) → Tells a (changing d other p r).report → if_told a (new_entry d p r ∷ []) ≡ (changing d other p r).entries
change_logs d other p r a told = by_test (is_held d p) told
  where
    by_test : (b : Bool) → Tells a (cond b (making d other p r) (telling d other (Exactly NotHeld))).report → if_told a (new_entry d p r ∷ []) ≡ (cond b (making d other p r) (telling d other (Exactly NotHeld))).entries
    by_test true told = rw told refl
    by_test false told = rw told refl

nothing_told : (a : Answer) (none : List Entry) → none ≡ [] → if_told a [] ≡ none
nothing_told a none is = elim (is_some (version_told a)) as (λ b. cond b [] [] ≡ none) [ true ↦ sym is | false ↦ sym is ]

-- what a command logs
pub command_logs : (models : List ModelDevice) (c : Command) (a : Answer) → Tells a (effect_on models c).report
    → if_told a (option_to_list (entry_if_made c (device_at models (devices_of c).0))) ≡ (effect_on models c).entries
command_logs models (command.New k p r) a told = rw told refl
command_logs models (command.Edit k p r) a told = change_logs (device_at models k) None p r a told
command_logs models (command.Remove k p) a told = change_logs (device_at models k) None p Removed a told
command_logs models (command.Pull t s) a told = nothing_told a _ (none_named models (command.Pull t s) refl)
command_logs models (command.Narrow k tree) a told = nothing_told a _ (none_named models (command.Narrow k tree) refl)
command_logs models (command.Refilter k tree) a told = nothing_told a _ refl
command_logs models (command.Preview t s) a told = nothing_told a _ refl
command_logs models (command.List k) a told = nothing_told a _ refl
command_logs models (command.Conflicts k) a told = nothing_told a _ refl
command_logs models (command.Knowledge k) a told = nothing_told a _ refl
command_logs models (command.Knows k p v) a told = nothing_told a _ refl

told_of_entries : (a : Answer) (helds : List Held) → entries_of (if_told a helds) ≡ if_told a (entries_of helds)
told_of_entries a helds = elim (is_some (version_told a)) as (λ b. entries_of (cond b helds []) ≡ cond b (entries_of helds) []) [ true ↦ refl | false ↦ refl ]

-- the log with a command's entry behind it
pub logged_more : (log new : List Held) (a : Answer) (held : Option Held) (entry : Option Entry) (entries : List Entry) → new ≡ log ++ if_told a (option_to_list held)
    → entries_of (option_to_list held) ≡ option_to_list entry → if_told a (option_to_list entry) ≡ entries → entries_of new ≡ entries_of log ++ entries
logged_more log new a held entry entries is shown logs =
    ap entries_of is ∙ map-append entry_of log (if_told a (option_to_list held)) ∙ ap (λ x. entries_of log ++ x) (told_of_entries a (option_to_list held) ∙ ap (if_told a) shown ∙ logs)
