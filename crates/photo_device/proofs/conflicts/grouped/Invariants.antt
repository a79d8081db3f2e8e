use Rattle.std.proofs.Common.{◌≡◌, true, ◌++◌, length}
use Rattle.photo_device.specs.Held.{entries_of, are_in_order}
use Rattle.photo_model.specs.Conflicts.{conflicts_in}
use Rattle.photo_device.proofs.conflicts.grouped.Given as goal

-- what is found, with the conflicts of what is left, is all
abbrev pub invariant-loop-rest : goal.invariant-loop-rest
invariant-loop-rest l = (l.conflicts.items ++ conflicts_in (entries_of l.rest) ≡ conflicts_in (entries_of l.all)) × (are_in_order l.rest ≡ true)

abbrev pub decreases-loop-rest : goal.decreases-loop-rest
decreases-loop-rest l = length l.rest
