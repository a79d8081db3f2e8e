use Rattle.std.proofs.Common.{rules, arith}
use Rattle.std.proofs.lemmas.List.{nil_from_length}
use Rattle.photo_filter_text.specs.Tokens.{tokens_of}
use Rattle.photo_filter_text.specs.Tree.{tree_of}
use Rattle.photo_filter_text.proofs.Complete.{one-tree}
use Rattle.photo_filter_text.proofs.Verdict.{accepted, no-fault}
use Rattle.photo_filter_text.proofs.reading.read.Goals as goal

pub returns-then-count-eq0-clause-fault : goal.returns-then-count-eq0-clause-fault
returns-then-count-eq0-clause-fault c = nil_from_length _ (omega arith)

pub returns-then-count-eq0-clause-accepted : goal.returns-then-count-eq0-clause-accepted
returns-then-count-eq0-clause-accepted c =
    λ tree f. no-fault (tokens_of c.args.text.now) tree _ f (nil_from_length _ (omega arith))

pub returns-in_err-tree-clause-accepted : goal.returns-in_err-tree-clause-accepted
returns-in_err-tree-clause-accepted c = accepted (tokens_of c.args.text.now) _ (search rules) (search rules)

pub returns-then-not-height_is_at_most-clause-accepted : goal.returns-then-not-height_is_at_most-clause-accepted
returns-then-not-height_is_at_most-clause-accepted c = λ tree f. no-fault (tokens_of c.args.text.now) tree _ f (search rules)

pub returns-clause-accepted : goal.returns-clause-accepted
returns-clause-accepted c = λ tree f. one-tree (tokens_of c.args.text.now) (tree_of c.in_ok-tree.tree) tree c.in_ok-tree.ensures.tree f.grammar
