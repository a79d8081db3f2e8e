use Rattle.std.proofs.Common.{◌≡◌, ◌++◌, take}
use Rattle.live_fleet.specs.Selected.{matched}
use Rattle.live_fleet.proofs.questions.selecting.push_matched.Given as goal

abbrev pub invariant-loop-held : goal.invariant-loop-held
invariant-loop-held l = l.found.items ≡ l.fn.found.items ++ matched l.wanted (take l.held-index l.helds)
