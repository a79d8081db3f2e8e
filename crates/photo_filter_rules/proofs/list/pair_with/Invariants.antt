use Rattle.std.proofs.Common.{◌≡◌, ◌++◌, false, map, drop}
use Rattle.photo_filter_rules.specs.Alternatives.{possible, both_of, is_long}
use Rattle.photo_filter_rules.proofs.list.pair_with.Given as goal

abbrev pub invariant-loop-other : goal.invariant-loop-other
invariant-loop-other l =
    (l.list.items ++ possible (map (both_of l.alternative) (drop l.other-index l.others)) ≡ l.initial.list.items ++ possible (map (both_of l.alternative) l.others))
    × (is_long l.list.items ≡ false)
