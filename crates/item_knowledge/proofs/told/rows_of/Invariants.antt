use Rattle.std.proofs.Common.{take}
use Rattle.item_knowledge.specs.TableRows.{IsTold}
use Rattle.item_knowledge.proofs.told.rows_of.Given as goal

abbrev pub invariant-loop-i : goal.invariant-loop-i
invariant-loop-i l = record { told : IsTold (take l.i l.table) l.rows l.index.items }
