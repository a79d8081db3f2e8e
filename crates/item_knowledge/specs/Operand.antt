-- Machinery of the proofs: an operand of a union, as the code lends it.
use Rattle.std.specs.Prelude.{List}
use Rattle.item_knowledge.specs.declared.operand.Operand.{Operand}
use Rattle.item_knowledge.specs.Fragments.{Fragment}
use Rattle.item_knowledge.specs.Rows.{fragments_of}

-- the fragments of an operand
abbrev pub fragments : Operand → List Fragment
fragments operand = fragments_of operand.rows.now
