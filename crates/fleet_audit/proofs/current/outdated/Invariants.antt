use Rattle.std.proofs.Common.{◌≡◌, ℕ, ◌<◌, ◌≤◌, ltb, length, get_or, take}
use Rattle.std.specs.Option.{option_copied}
use Rattle.photo_device.specs.declared.held.Held.{Held}
use Rattle.fleet_audit.specs.Current.{is_passed}
use Rattle.fleet_audit.proofs.current.outdated.Given as goal

abbrev pub invariant-loop-newer : goal.invariant-loop-newer
invariant-loop-newer l = record {
  within : l.count ≤ length l.stretch;
  passed : (k : ℕ) (d : Held) → k < length l.stretch → ltb k l.count ≡ is_passed (option_copied l.viewer) (take l.newer-index l.made) (get_or l.stretch k d).version;
}
