use Rattle.std.proofs.Common.{◌≡◌, drop}
use Rattle.item_knowledge.proofs.fragment.Fragment.entry.Given as goal

abbrev pub invariant-loop-place : goal.invariant-loop-place
invariant-loop-place l = record { rest : l.entries ≡ drop l.place l.self.entries }
