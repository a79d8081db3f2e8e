use Rattle.std.proofs.Common.{arith}
use Rattle.std.proofs.lemmas.Grind.{common_steps}
use Rattle.item_knowledge.proofs.vector_index.VectorIndex.vector.Goals as goal

pub row-requires : goal.row-requires
row-requires c = grind (arith, common_steps, c.requires.found.there c.args.k c.requires.place, c.index.ensures)

pub returns : goal.returns
returns c = grind (arith, common_steps, c.index.ensures, c.row.ensures)
