-- Machinery of the proofs: how far a run of a script has come, and what it gives in the end.
use Rattle.std.specs.Prelude.{◌≡◌, ℕ, ◌<◌, ◌≤◌, true, List, length, map, Option, Some, None, IsPermutation}
use Rattle.std.specs.List.{AllZip, AllByRecursion}
use Rattle.photo_version.specs.Author.{device_of_author}
use Rattle.photo_version.specs.Version.{Version}
use Rattle.photo_device.specs.declared.held.Held.{Held}
use Rattle.photo_model.specs.Entry.{Entry}
use Rattle.photo_device.specs.Held.{entries_of}
use Rattle.photo_model.specs.Device.{ModelDevice, known}
use Rattle.photo_device.specs.Device.{Kept, Shows}
use Rattle.photo_script.specs.declared.report.Report.{Report}
use Rattle.fleet_model.specs.Contents.{Contents}
use Rattle.fleet_model.specs.Answers.{ModelReport}
use Rattle.photo_script.specs.Reports.{Tells, answer_of, IsOfScript, IsAbout}
use Rattle.fleet_model.specs.Steps.{HasMadeAtMost}
use Rattle.fleet_model.specs.Runs.{run_in_order, run, reports_of}

-- the entry's version was made by a device of the script, and so was each version in its history
pub record IsOfRun (script : Contents) (e : Entry) : Type 0 where
  pub itself : IsOfScript script e.version
  pub history : (v : Version) → e.history v ≡ true → IsOfScript script v

-- the device is one of the script's; all that it holds and each version that it knows was made by devices of the script
pub record IsOfFleet (script : Contents) (d : ModelDevice) : Type 0 where
  pub author : device_of_author d.author < length script.names
  pub store : AllByRecursion (IsOfRun script) d.store
  pub out : AllByRecursion (IsOfRun script) d.out
  pub knows : (picture : ℕ) (v : Version) → known d picture v ≡ true → IsOfScript script v

-- if the command has run, the report is the right one
abbrev pub IsTold : Report → Option ModelReport → Type 0
IsTold report None = Unit {0}
IsTold report (Some right) = Tells (answer_of report) right

-- The commands of those numbers have run in that order and led to the devices, the reports by number and the log. While there
-- are epochs to begin, all of them name devices of the script alone.
pub record RunsTo (script : Contents) (front : List ℕ) (devices : List Kept) (slots : List Report) (log : List Held) : Type 0 where
  pub long : length devices ≡ length script.names
  pub shown : AllZip Shows devices (run_in_order script front).devices
  pub told : AllZip IsTold slots (run_in_order script front).reports
  pub known : length front ≤ 4_294_967_295 → AllByRecursion (IsOfFleet script) (run_in_order script front).devices
  pub about : length front ≤ 4_294_967_295 → AllByRecursion (λ report. IsAbout script (answer_of report)) slots
  pub counted : AllByRecursion (HasMadeAtMost (length front)) (run_in_order script front).devices
  pub logged : entries_of log ≡ (run_in_order script front).log

-- a run in a lawful order has given what the run gives
pub record HasRun (script : Contents) (devices : List Kept) (reports : List Report) (log : List Held) : Type 0 where
  pub devices_are : AllZip Shows devices (run script).devices
  pub right : AllZip Tells (map answer_of reports) (reports_of (run script))
  pub about : AllByRecursion (IsAbout script) (map answer_of reports)
  pub logged : IsPermutation (run script).log (entries_of log)
