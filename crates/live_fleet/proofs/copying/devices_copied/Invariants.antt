use Rattle.std.proofs.Common.{◌≡◌, map, take}
use Rattle.photo_device.specs.Device.{unstaged}
use Rattle.live_fleet.proofs.copying.devices_copied.Given as goal

abbrev pub invariant-loop-device : goal.invariant-loop-device
invariant-loop-device l = l.copies.items ≡ map unstaged (take l.device-index l.devices)
