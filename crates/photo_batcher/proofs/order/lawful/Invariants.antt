use Rattle.std.proofs.Common.{take}
use Rattle.photo_batcher.specs.Steps.{IsCheckedTo}
use Rattle.photo_batcher.proofs.order.lawful.Given as goal

abbrev pub invariant-loop-number : goal.invariant-loop-number
invariant-loop-number l = IsCheckedTo l.script (take l.number-index l.order) l.last.items
