use Rattle.std.proofs.Common.{◌≡◌}
use Rattle.photo_filter_text.specs.Tree.{tree_of}
use Rattle.photo_filter_text.specs.Steps.{negated}
use Rattle.photo_filter_text.proofs.reader.negated.Given as goal

abbrev pub invariant-loop : goal.invariant-loop
invariant-loop l = tree_of l.tree ≡ negated l.counter (tree_of l.fn.factor)
