use Rattle.tool_workbench.proofs.TableLemmas.{IsTo}
use Rattle.tool_workbench.proofs.table.table.Given as goal

abbrev pub invariant-loop-i : goal.invariant-loop-i
invariant-loop-i l = record { pictures : IsTo l.i l.table.items }
