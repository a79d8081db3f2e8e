use Rattle.std.proofs.Common.{◌-◌, ◌≤◌}
use Rattle.item_knowledge.specs.Searching.{pairs_in, IsBetween}
use Rattle.item_knowledge.proofs.search.place_from.Given as goal

abbrev pub invariant-loop-low : goal.invariant-loop-low
invariant-loop-low l = record {
  ends : l.low ≤ l.high;
  between : IsBetween l.key (pairs_in l.list) l.low l.high;
}

abbrev pub decreases-loop-low : goal.decreases-loop-low
decreases-loop-low l = l.high - l.low
