use Rattle.photo_device.proofs.Taken.{has_room, one_taken}
use Rattle.photo_device.proofs.conflicts.joined.Goals as goal

pub put_in-requires : goal.put_in-requires
put_in-requires c = rw c.in_ok-try_clone.ensures (has_room _ _ _ _ _ _ (rw c.in-Some.ensures.steps at c.loop-held.invariant))

pub loop-held-preserved : goal.loop-held-preserved
loop-held-preserved c = one_taken _ _ _ _ _ _ _ (rw c.in-Some.ensures.steps at c.loop-held.invariant) (rw c.in_ok-try_clone.ensures at c.put_in.ensures)
