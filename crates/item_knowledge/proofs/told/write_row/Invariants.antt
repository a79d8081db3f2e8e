use Rattle.std.proofs.Common.{take}
use Rattle.item_knowledge.proofs.TableRowLemmas.{IsRowOf}
use Rattle.item_knowledge.proofs.told.write_row.Given as goal

abbrev pub invariant-loop-i : goal.invariant-loop-i
invariant-loop-i l = record { written : IsRowOf (take l.i l.vector) l.row.items }
