use Rattle.std.proofs.Common.{refl}
use Rattle.item_knowledge.specs.VectorIndex.{share}
use Rattle.item_knowledge.proofs.vector_index.share.Goals as goal

pub returns : goal.returns
unfolding share
returns c = refl
