use Rattle.std.specs.Prelude.{◌≡◌, length, map, take, List, Some}
use Rattle.photo_device.specs.Device.{Kept}
use Rattle.fleet_workers.specs.Dealing.{IsDealt}
use Rattle.fleet_workers.proofs.deal.deal.Given as goal

abbrev pub invariant-loop-i : goal.invariant-loop-i
invariant-loop-i l = record {
  long : length l.slots.items ≡ length l.script.names;
  many : length l.groups.items ≡ l.count;
  dealt : (devices : List Kept) → l.fn.slots.items ≡ map Some devices → IsDealt l.script (take l.i l.members) devices l.count l.groups.items l.slots.items;
}
