use Rattle.std.proofs.Common.{◌≡◌, ℕ, ◌<◌, take, get_or}
use Rattle.photo_device.specs.declared.held.Held.{Held}
use Rattle.fleet_steps.proofs.issue_log.copies.Given as goal

abbrev pub invariant-loop-held : goal.invariant-loop-held
invariant-loop-held l = record {
  list : l.list.items ≡ take l.held-index l.issued;
  above : (k : ℕ) (d : Held) → k < l.held-index → 0 < (get_or l.issued k d).picture;
}
