use Rattle.std.proofs.Common.{take}
use Rattle.std.specs.List.{AllZip}
use Rattle.photo_device.specs.Device.{Shows}
use Rattle.fleet_model.specs.Runs.{opening_from}
use Rattle.fleet_steps.specs.Between.{AreSettled}
use Rattle.live_fleet.proofs.opening.opening_devices.Given as goal

abbrev pub invariant-loop-place : goal.invariant-loop-place
invariant-loop-place l = AllZip Shows l.devices.items (opening_from 0 (take l.place l.filters)) × AreSettled l.devices.items
