use Rattle.std.proofs.Common.{◌++◌, length}
use Rattle.photo_device.specs.Resorted.{AreLeft}
use Rattle.photo_device.proofs.TableLemmas.{IsTableBefore}
use Rattle.photo_device.proofs.table.told_by.Given as goal

abbrev pub invariant-loop-held : goal.invariant-loop-held
invariant-loop-held l =
    AreLeft l.along.heard.now l.along.handed.now
    × IsTableBefore l.table.items (l.along.heard.now ++ l.along.handed.now) (l.heard ++ l.handed)

abbrev pub decreases-loop-held : goal.decreases-loop-held
decreases-loop-held l = length (l.along.heard.now ++ l.along.handed.now)
