-- The outcome of a run.
use Rattle.std.specs.Prelude.{◌≡◌, ◌≤◌, List, length, map, IsPermutation}
use Rattle.std.specs.List.{AllZip, AllByRecursion}
use Rattle.photo_device.specs.Held.{entries_of}
use Rattle.photo_device.specs.Device.{Shows}
use Rattle.fleet_model.specs.Limits.{max_commands}
use Rattle.fleet_model.specs.Contents.{Contents}
use Rattle.photo_script.specs.Reports.{Answer, Tells, answer_of, IsAbout}
use Rattle.fleet_model.specs.Runs.{run, reports_of}
use Rattle.fleet_model.specs.Tallies.{totals_of}
use Rattle.fleet_steps.specs.declared.outcome.Outcome.{Outcome}
use Rattle.fleet_model.specs.Sound.{IsSoundThroughout}

-- the answers are the right ones to the script's commands, in the order of their numbers
abbrev pub AreRight : Contents → List Answer → Type 0
AreRight script answers = AllZip Tells answers (reports_of (run script))

-- What every run of a script gives, in whatever lawful order its commands ran. The devices show those of the run by numbers.
-- The reports give that run's right answers, one for each command, in the order of the numbers. The totals are that run's. The
-- log has its entries, each as often, in any order. After each command of the run by numbers each device is sound, no current
-- version is lost, and no version was made twice.
pub record IsOutcome (script : Contents) (o : Outcome) : Type 0 where
  pub devices : AllZip Shows o.devices.items (run script).devices
  pub reports : AreRight script (map answer_of o.reports.items)
  pub each : length o.reports.items ≡ length script.commands
  pub about : AllByRecursion (IsAbout script) (map answer_of o.reports.items)
  pub few : length o.reports.items ≤ max_commands
  pub totals : o.totals ≡ totals_of script (run script)
  pub log : IsPermutation (run script).log (entries_of o.log)
  pub sound : IsSoundThroughout script
