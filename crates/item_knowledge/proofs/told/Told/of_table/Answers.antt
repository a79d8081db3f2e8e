use Rattle.std.proofs.Common.{refl}
use Rattle.item_knowledge.proofs.TableRowLemmas.{telling, telling_pairs}
use Rattle.item_knowledge.proofs.told.Told.of_table.Goals as goal

pub invariant_of-result : goal.invariant_of-result
invariant_of-result c = telling c.in_ok-live.ensures c.in_ok-live.index.items refl c.requires

pub returns : goal.returns
returns c = telling_pairs c.in_ok-live.ensures _ refl c.requires
