-- The version that a command on one device has just made, as the device holds it.
use Rattle.std.proofs.Common.{◌≡◌, ℕ, Bool, true, false, cond, ◌++◌, ap, subst}
use Rattle.std.specs.Prelude.{Some, None}
use Rattle.std.specs.Option.{option_to_list}
use Rattle.photo_record.specs.declared.record.Record.{Record}
use Rattle.photo_record.specs.declared.record.Record.TheVariants.{Removed}
use Rattle.photo_version.specs.Version.{Version}
use Rattle.photo_device.specs.Held.{entries_of, find_version_of}
use Rattle.photo_model.specs.Device.{ModelDevice, is_held}
use Rattle.photo_device.specs.Device.{Kept, Shows}
use Rattle.fleet_model.specs.declared.command.Command.{Command}
use Rattle.fleet_model.specs.declared.command.Command.TheVariants as command
use Rattle.fleet_model.specs.Answers.{Exactly, NotHeld}
use Rattle.photo_script.specs.Reports.{Answer, Tells}
use Rattle.fleet_model.specs.Runs.{effect, making, telling, changing}
use Rattle.fleet_steps.specs.Issued.{picture_of, version_told}
use Rattle.fleet_steps.proofs.Issued.{making_issued}

abbrev IsFound : Kept → ℕ → Version → Command → ModelDevice → Type 0
IsFound d p v c m = entries_of (option_to_list (find_version_of p v (d.store ++ d.out))) ≡ (effect c m None).entries

either_made : (d : Kept) (m : ModelDevice) (q : ℕ) (r : Record) (a : Answer) (v : Version) (b : Bool)
    → Shows d (cond b (making m None q r) (telling m None (Exactly NotHeld))).first → Tells a (cond b (making m None q r) (telling m None (Exactly NotHeld))).report → version_told a ≡ Some v
    → entries_of (option_to_list (find_version_of q v (d.store ++ d.out))) ≡ (cond b (making m None q r) (telling m None (Exactly NotHeld))).entries
either_made d m q r a v true shown told is = making_issued d m None q r a v told is shown
either_made d m q r a v false shown told is = let not_made = ap version_told told in cc

-- the log gains what the device holds of the version that the command reports as made
pub made_is : (d : Kept) (m : ModelDevice) (c : Command) (a : Answer) (p : ℕ) (v : Version) → picture_of c ≡ Some p → version_told a ≡ Some v → Shows d (effect c m None).first → Tells a (effect c m None).report → IsFound d p v c m
made_is d m (command.New k q r) a p v of is shown told = let same : q ≡ p = cc in subst (λ x. entries_of (option_to_list (find_version_of x v (d.store ++ d.out))) ≡ (making m None q r).entries) same (making_issued d m None q r a v told is shown)
made_is d m (command.Edit k q r) a p v of is shown told = let same : q ≡ p = cc in subst (λ x. entries_of (option_to_list (find_version_of x v (d.store ++ d.out))) ≡ (changing m None q r).entries) same (either_made d m q r a v (is_held m q) shown told is)
made_is d m (command.Remove k q) a p v of is shown told = let same : q ≡ p = cc in subst (λ x. entries_of (option_to_list (find_version_of x v (d.store ++ d.out))) ≡ (changing m None q Removed).entries) same (either_made d m q Removed a v (is_held m q) shown told is)
made_is d m (command.Pull t s) a p v of is shown told = cc
made_is d m (command.Narrow k tree) a p v of is shown told = cc
made_is d m (command.Refilter k tree) a p v of is shown told = cc
made_is d m (command.Preview t s) a p v of is shown told = cc
made_is d m (command.List k) a p v of is shown told = cc
made_is d m (command.Conflicts k) a p v of is shown told = cc
made_is d m (command.Knowledge k) a p v of is shown told = cc
made_is d m (command.Knows k q w) a p v of is shown told = cc
