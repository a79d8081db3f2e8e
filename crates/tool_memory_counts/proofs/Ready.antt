-- What the run of a script leaves ready for one more command.
use Rattle.std.proofs.Common.{◌≡◌, ◌≤◌, List, length}
use Rattle.std.specs.List.{AllZip}
use Rattle.photo_device.specs.Device.{Kept, Shows}
use Rattle.fleet_model.specs.Limits.{max_devices, max_commands}
use Rattle.fleet_model.specs.Contents.{Contents, NamesDevices, AreInRange}
use Rattle.fleet_model.specs.Runs.{run}
use Rattle.fleet_steps.specs.Between.{AreReady}
use Rattle.fleet_model.proofs.ReadyRuns.{run_is_ready}

pub ready_after : (script : Contents) (devices : List Kept) → length script.names ≤ max_devices → length script.filters ≡ length script.names → length script.commands ≤ max_commands → NamesDevices script → AreInRange script → AllZip Shows devices (run script).devices → AreReady devices
ready_after script devices few filtered small known in_range shown = record {
  models = (run script).devices;
  shown = shown;
  ready = run_is_ready script (length script.commands) (record { devices = few; filtered = filtered; commands = small; known = known; in_range = in_range });
}
