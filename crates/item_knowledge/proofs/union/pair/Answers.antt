use Rattle.std.proofs.Common.{◌≡◌, true, sym, subst}
use Rattle.item_knowledge.specs.Tables.{in_order}
use Rattle.item_knowledge.specs.Operand.{fragments}
use Rattle.item_knowledge.proofs.UnionLemmas.{entries_order}
use Rattle.item_knowledge.proofs.union.pair.Goals as goal

pub join-requires-clause-left : goal.join-requires-clause-left
join-requires-clause-left c =
    subst (λ es. in_order es ≡ true) (sym c.entries.ensures.entries) (entries_order (fragments c.args.left) c.args.left.index.now c.args.numbers.0 c.args.left.operand c.requires.a)

pub join-requires-clause-right : goal.join-requires-clause-right
join-requires-clause-right c =
    subst (λ es. in_order es ≡ true) (sym c.entries-2.ensures.entries) (entries_order (fragments c.args.right) c.args.right.index.now c.args.numbers.1 c.args.right.operand c.requires.b)
