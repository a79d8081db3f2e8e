use Rattle.std.proofs.Common.{◌≡◌, take}
use Rattle.live_fleet.proofs.copying.log_copied.Given as goal

abbrev pub invariant-loop-held : goal.invariant-loop-held
invariant-loop-held l = l.copies.items ≡ take l.held-index l.log
