use Rattle.std.proofs.Common.{◌≡◌, drop}
use Rattle.item_knowledge.specs.Entries.{leq}
use Rattle.item_knowledge.specs.Fragments.{entries_at}
use Rattle.item_knowledge.specs.Rows.{pairs, fragments_of}
use Rattle.item_knowledge.proofs.knowledge_rows.KnowledgeRows.has_row.Given as goal

abbrev pub invariant-loop-i : goal.invariant-loop-i
invariant-loop-i l = record { rest : leq (drop l.i (pairs l.row)) (entries_at (fragments_of l.self) l.k) ≡ leq (pairs l.row) (entries_at (fragments_of l.self) l.k) }
