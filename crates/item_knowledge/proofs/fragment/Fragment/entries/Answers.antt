use Rattle.std.proofs.Common.{ap, ◌∙◌}
use Rattle.item_knowledge.specs.Entries.{is_vector}
use Rattle.item_knowledge.proofs.JoinLemmas.{at_first, lent_vector}
use Rattle.item_knowledge.proofs.fragment.Fragment.entries.Goals as goal

pub invariant_of-result : goal.invariant_of-result
invariant_of-result c = (
  c.self.invariant,
  ap is_vector (at_first c.new.result c.self.inside.row.now c.self.inside.star.now c.new.ensures.left c.new.ensures.right) ∙ lent_vector c.self.inside.row.now c.self.inside.star.now c.self.invariant,
)
