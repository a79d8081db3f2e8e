use Rattle.std.proofs.Common.{◌≡◌, List, ℕ, ◌++◌, string_bytes, sym, ap, subst, ◌∙◌}
use Rattle.photo_filter_text.specs.Tree.{tree_of}
use Rattle.photo_filter_text.specs.Tokens.{tokens_of}
use Rattle.photo_filter_text.specs.Grammar.{IsExpr, term, factor}
use Rattle.photo_filter_text.specs.Printed.{text_of}
use Rattle.photo_filter_text.proofs.Complete.{one-tree}
use Rattle.photo_filter_text.proofs.PrintedAgain.{printed}
use Rattle.photo_filter_text.proofs.printing.print.Goals as goal

pub returns-clause-tree : goal.returns-clause-tree
returns-clause-tree c =
    let tree = tree_of c.args.tree.now in
    let text : string_bytes c.push_tree.new.text ≡ text_of tree = c.in_ok-push_tree.ensures.text ∙ ap (λ b. b ++ text_of tree) c.new-text.ensures.bytes in
    subst (λ (b : List ℕ). IsExpr (tokens_of b) tree) (sym text) (term (factor (printed tree c.in_ok-push_tree.ensures.sound)))

pub returns-clause-only : goal.returns-clause-only
returns-clause-only c =
    λ other e. one-tree (tokens_of (string_bytes c.push_tree.new.text)) other (tree_of c.args.tree.now) e (returns-clause-tree c)
