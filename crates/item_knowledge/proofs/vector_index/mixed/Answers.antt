use Rattle.std.proofs.Common.{rules}
use Rattle.item_knowledge.specs.VectorIndex.{mixed}
use Rattle.item_knowledge.proofs.vector_index.mixed.Goals as goal

pub returns : goal.returns
unfolding mixed
returns c = search rules
