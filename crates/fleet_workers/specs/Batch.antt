-- A batch: which devices its jobs take, and where their results go.
use Rattle.std.specs.Prelude.{◌≡◌, ℕ, ◌-◌, ◌<◌, ◌≤◌, false, List, [], ◌∷◌, ◌++◌, length, slice_index_or, slice_set, Option, Some, None}
use Rattle.std.specs.List.{AllByRecursion}
use Rattle.std.specs.Option.{option_to_list}
use Rattle.photo_device.specs.declared.held.Held.{Held}
use Rattle.photo_device.specs.Device.{Kept}
use Rattle.fleet_model.specs.declared.command.Command.{Command}
use Rattle.photo_script.specs.declared.report.Report.{Report}
use Rattle.fleet_model.specs.Contents.{Contents, command_of, devices_of, IsWithin}
use Rattle.photo_batcher.specs.Related.{uses, AreRelated}
use Rattle.photo_batcher.specs.Orders.{times}
use Rattle.fleet_workers.specs.declared.work.Job.{Job}
use Rattle.fleet_workers.specs.declared.work.Done.{Done}

-- if there is a place, the job's second device is the one there; otherwise it has none
abbrev pub IsSecondAt : Option ℕ → List Kept → Option Kept → Type 0
IsSecondAt None devices second = second ≡ None
IsSecondAt (Some k) devices second = (d : Kept) × (second ≡ Some d) × ((x : Kept) → slice_index_or devices k x ≡ d)

-- the job has the devices, out of these, on which its command works
pub record IsJobAt (script : Contents) (devices : List Kept) (job : Job) : Type 0 where
  pub command : Command
  pub is : command_of script job.number ≡ Some command
  pub within : IsWithin (length devices) command
  pub first : (x : Kept) → slice_index_or devices (devices_of command).0 x ≡ job.first
  pub second : IsSecondAt (devices_of command).1 devices job.second

-- each command occurs at most once in the batch, and no two of them are related
pub record AreApart (script : Contents) (members : List ℕ) : Type 0 where
  pub once : (n : ℕ) → times n members ≤ 1
  pub apart : (m n : ℕ) → 0 < times m members → 0 < times n members → (m ≡ n → ⊥) → AreRelated script m n → ⊥

-- the list with a command's results at the places of its devices
abbrev pub with_other : {X : Type 0} → Option ℕ → Option X → List X → List X
with_other None other xs = xs
with_other (Some k) None xs = xs
with_other (Some k) (Some x) xs = slice_set xs k x

abbrev pub in_places : {X : Type 0} → Command → X → Option X → List X → List X
in_places c first second xs = with_other (devices_of c).1 second (slice_set xs (devices_of c).0 first)

abbrev pub put_devices : Contents → Done → List Kept → List Kept
put_devices script done devices = by_cases (command_of script done.number)
  where
    by_cases : Option Command → List Kept
    by_cases None = devices
    by_cases (Some c) = in_places c done.first done.second devices

-- the lists after all results are put back, one after another

abbrev pub all_devices : Contents → List Done → List Kept → List Kept
all_devices script [] devices = devices
all_devices script (d ∷ more) devices = all_devices script more (put_devices script d devices)

abbrev pub all_reports : List Done → List Report → List Report
all_reports [] reports = reports
all_reports (d ∷ more) reports = all_reports more (slice_set reports (d.number - 1) d.report)

abbrev pub all_logged : List Done → List Held → List Held
all_logged [] log = log
all_logged (d ∷ more) log = all_logged more (log ++ option_to_list d.entry)

-- the same functions on slots

abbrev pub some_second : Option Kept → Option (Option Kept)
some_second None = None
some_second (Some d) = Some (Some d)

abbrev pub put_slots : Contents → Done → List (Option Kept) → List (Option Kept)
put_slots script done slots = by_cases (command_of script done.number)
  where
    by_cases : Option Command → List (Option Kept)
    by_cases None = slots
    by_cases (Some c) = in_places c (Some done.first) (some_second done.second) slots

abbrev pub all_slots : Contents → List Done → List (Option Kept) → List (Option Kept)
all_slots script [] slots = slots
all_slots script (d ∷ more) slots = all_slots script more (put_slots script d slots)

-- the slots without the devices of a command
abbrev pub taken_slots : Contents → ℕ → List (Option Kept) → List (Option Kept)
taken_slots script n slots = by_cases (command_of script n)
  where
    by_cases : Option Command → List (Option Kept)
    by_cases None = slots
    by_cases (Some c) = in_places c None (Some None) slots

-- the slots have these devices, except those on which the commands of these numbers work
pub record AreOut (script : Contents) (numbers : List ℕ) (devices : List Kept) (slots : List (Option Kept)) : Type 0 where
  pub long : length slots ≡ length devices
  pub here : (k : ℕ) → k < length devices → AllByRecursion (λ n. uses script n k ≡ false) numbers → (x : Option Kept) (d : Kept) → slice_index_or slots k x ≡ Some (slice_index_or devices k d)

-- the result belongs to a command of the script
abbrev pub IsOfCommand : Contents → Done → Type 0
IsOfCommand script done = (0 < done.number) × (done.number ≤ length script.commands)

-- the device was in the slot at that place, if there is a place
abbrev pub IsTaken : Option ℕ → List (Option Kept) → Option Kept → Type 0
IsTaken None slots device = device ≡ None
IsTaken (Some k) slots device = (d : Kept) × (device ≡ Some d) × ((x : Option Kept) → slice_index_or slots k x ≡ Some d)
