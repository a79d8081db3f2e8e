use Rattle.tool_scale_calls.proofs.TableLemmas.{IsTo}
use Rattle.tool_scale_calls.proofs.table.table.Given as goal

abbrev pub invariant-loop-i : goal.invariant-loop-i
invariant-loop-i l = record { pictures : IsTo l.i l.table.items }
