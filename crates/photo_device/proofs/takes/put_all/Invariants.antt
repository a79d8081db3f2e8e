use Rattle.std.proofs.Common.{true, false}
use Rattle.std.specs.Vec.Iter.{into_iter_items}
use Rattle.photo_device.specs.Taking.{is_on_side}
use Rattle.photo_device.proofs.Taken.{IsTaking}
use Rattle.photo_device.proofs.takes.put_all.Given as goal

abbrev pub invariant-loop-held : goal.invariant-loop-held
invariant-loop-held l =
    IsTaking (is_on_side true l.wanted) l.fn.coming.items l.initial.store (into_iter_items l.held-iterator) l.store
    × IsTaking (is_on_side false l.wanted) l.fn.coming.items l.initial.out (into_iter_items l.held-iterator) l.out
