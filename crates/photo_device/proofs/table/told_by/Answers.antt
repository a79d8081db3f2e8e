use Rattle.photo_device.proofs.TableLemmas.{next_told}
use Rattle.photo_device.proofs.table.told_by.Goals as goal

pub loop-held-preserved : goal.loop-held-preserved
loop-held-preserved c =
    (c.in-Some.ensures.left, next_told c.loop-held.table.items _ c.in-Some.held.now _ _ _ c.in-Some.ensures.next c.in_ok-add_told.ensures c.loop-held.invariant.1)
