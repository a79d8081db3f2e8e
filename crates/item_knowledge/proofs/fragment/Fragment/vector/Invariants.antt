use Rattle.std.proofs.Common.{◌≡◌, ◌++◌, length}
use Rattle.item_knowledge.specs.TableRows.{entries_of}
use Rattle.item_knowledge.proofs.fragment.Fragment.vector.Given as goal

abbrev pub invariant-loop-bound : goal.invariant-loop-bound
invariant-loop-bound l = record { rest : entries_of l.bounds.items ++ l.entries ≡ l.self.entries }

abbrev pub decreases-loop-bound : goal.decreases-loop-bound
decreases-loop-bound l = length l.entries
