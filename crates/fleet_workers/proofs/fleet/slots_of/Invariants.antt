use Rattle.std.specs.Prelude.{◌≡◌, ◌++◌, map, Some}
use Rattle.std.specs.Vec.Iter.{into_iter_items}
use Rattle.fleet_workers.proofs.fleet.slots_of.Given as goal

abbrev pub invariant-loop-device : goal.invariant-loop-device
invariant-loop-device l = l.slots.items ++ map Some (into_iter_items l.device-iterator) ≡ map Some l.fn.devices.items
