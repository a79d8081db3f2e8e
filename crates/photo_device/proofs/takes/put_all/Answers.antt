use Rattle.photo_device.proofs.Taken.{has_room, one_taken}
use Rattle.photo_device.proofs.takes.put_all.Goals as goal

pub put_one-requires-clause-store : goal.put_one-requires-clause-store
put_one-requires-clause-store c = has_room _ _ _ _ _ _ (rw c.in-Some.ensures.steps.0 at c.loop-held.invariant.0)

pub put_one-requires-clause-out : goal.put_one-requires-clause-out
put_one-requires-clause-out c = has_room _ _ _ _ _ _ (rw c.in-Some.ensures.steps.0 at c.loop-held.invariant.1)

pub loop-held-preserved : goal.loop-held-preserved
loop-held-preserved c =
    let are = rw c.in-Some.ensures.steps.0 at c.loop-held.invariant in
    (one_taken _ _ _ _ _ _ _ are.0 c.put_one.ensures.store, one_taken _ _ _ _ _ _ _ are.1 c.put_one.ensures.out)
