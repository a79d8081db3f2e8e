use Rattle.photo_filter_text.proofs.Complete.{one-tree}
use Rattle.photo_filter_text.proofs.laws.one_tree.Goals as goal

pub returns : goal.returns
returns c = one-tree
