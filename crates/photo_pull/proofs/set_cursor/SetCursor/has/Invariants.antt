use Rattle.std.proofs.Common.{length}
use Rattle.photo_pull.specs.OnHeld.{left_of, HasPassed}
use Rattle.photo_pull.proofs.set_cursor.SetCursor.has.Given as goal

abbrev pub invariant-loop-self : goal.invariant-loop-self
invariant-loop-self l = HasPassed l.held l.fn.self (left_of l.self-inside.next l.self-inside.others)

abbrev pub decreases-loop-self : goal.decreases-loop-self
decreases-loop-self l = length (left_of l.self-inside.next l.self-inside.others)
