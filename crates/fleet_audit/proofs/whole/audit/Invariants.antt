use Rattle.std.proofs.Common.{◌≡◌, true, List, take}
use Rattle.std.specs.List.{AllZip, list_all}
use Rattle.photo_device.specs.Held.{entries_of}
use Rattle.photo_model.specs.Device.{ModelDevice}
use Rattle.photo_device.specs.Device.{Shows}
use Rattle.fleet_model.specs.Sound.{is_sound}
use Rattle.fleet_audit.proofs.whole.audit.Given as goal

abbrev pub invariant-loop-device : goal.invariant-loop-device
invariant-loop-device l = (models : List ModelDevice) → AllZip Shows l.devices models → list_all (is_sound (entries_of l.log)) (take l.device-index models) ≡ true
