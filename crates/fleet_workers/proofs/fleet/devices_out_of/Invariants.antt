use Rattle.std.specs.Prelude.{◌≡◌, ◌++◌, map, Some, List}
use Rattle.std.specs.Vec.Iter.{into_iter_items}
use Rattle.photo_device.specs.Device.{Kept}
use Rattle.fleet_workers.proofs.fleet.devices_out_of.Given as goal

abbrev pub invariant-loop-slot : goal.invariant-loop-slot
invariant-loop-slot l = (left : List Kept) × (into_iter_items l.slot-iterator ≡ map Some left) × (l.fn.slots.items ≡ map Some (l.all.items ++ left))
