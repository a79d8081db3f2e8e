-- Machinery of the proofs: how far workers have come between two batches.
use Rattle.std.specs.Prelude.{◌≡◌, ℕ, List, length, map, replicate, Some}
use Rattle.photo_device.specs.Device.{Kept}
use Rattle.fleet_model.specs.Contents.{Contents, IsScript}
use Rattle.fleet_model.specs.Tallies.{tally_of}
use Rattle.photo_script.specs.declared.report.Report.TheVariants.{NotHeld}
use Rattle.photo_batcher.specs.Orders.{IsLawful}
use Rattle.work_ledger.specs.Ledgers.{all_parts}
use Rattle.work_ledger.specs.Stakes.{Stake, stake, less}
use Rattle.fleet_steps.specs.Running.{RunsTo}
use Rattle.fleet_workers.specs.Batch.{all_reports}
use Rattle.fleet_workers.specs.Counting.{tally_at, worked, moved_in}
use Rattle.fleet_workers.specs.declared.slots.Slots.{Slots}
use Rattle.fleet_workers.specs.declared.work.Done.{Done}

-- The commands of these numbers have run in this order. All devices are in their slots, and the share has counted each command
-- once.
pub record HasRun (script : Contents) (front : List ℕ) (slots : Slots) (share : Stake) : Type 0 where
  pub devices : List Kept
  pub here : slots.devices.items ≡ map Some devices
  pub to : RunsTo script front devices slots.reports.items slots.log.items
  pub done : List Done
  pub numbers : map (λ d. d.number) done ≡ front
  pub reports : slots.reports.items ≡ all_reports done (replicate (length script.commands) NotHeld)
  pub counted : share ≡ stake all_parts (less (tally_of script) (tally_at script front)) (worked (tally_at script front) (moved_in done))

-- all commands have run, in a lawful order
pub record HasEnded (script : Contents) (slots : Slots) (share : Stake) : Type 0 where
  pub is : IsScript script
  pub order : List ℕ
  pub lawful : IsLawful script order
  pub run : HasRun script order slots share
