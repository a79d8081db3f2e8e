use Rattle.std.proofs.Common.{◌≡◌, ◌+◌, length}
use Rattle.item_knowledge.proofs.fragment.Fragment.len.Given as goal

abbrev pub invariant-loop-count : goal.invariant-loop-count
invariant-loop-count l = record { rest : l.count + length l.entries ≡ length l.self.entries }

abbrev pub decreases-loop-count : goal.decreases-loop-count
decreases-loop-count l = length l.entries
