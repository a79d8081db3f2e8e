use Rattle.std.proofs.Common.{arith}
use Rattle.std.proofs.lemmas.Bool.{false≢true}
use Rattle.photo_filter_text.specs.Tree.{tree_of}
use Rattle.photo_filter_text.proofs.Heights.{height-positive}
use Rattle.photo_filter_text.proofs.tree.FilterTree.+height_is_at_most.Goals as goal

pub returns-then-limit-eq0 : goal.returns-then-limit-eq0
returns-then-limit-eq0 t c =
    let h = height-positive (tree_of c.args.self.now) in
    let e = c.if-limit-eq0.true in
    (λ f. absurd (false≢true f), λ l. absurd (omega arith))
