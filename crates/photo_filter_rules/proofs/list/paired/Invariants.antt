use Rattle.std.proofs.Common.{◌≡◌, ◌++◌, false, drop}
use Rattle.photo_filter_rules.specs.Alternatives.{pairs, is_long}
use Rattle.photo_filter_rules.proofs.list.paired.Given as goal

abbrev pub invariant-loop-alternative : goal.invariant-loop-alternative
invariant-loop-alternative l =
    (l.list.items ++ pairs (drop l.alternative-index l.left) l.right ≡ pairs l.left l.right)
    × (is_long l.list.items ≡ false)
