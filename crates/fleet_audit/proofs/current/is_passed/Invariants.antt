use Rattle.std.proofs.Common.{◌≡◌, false, take}
use Rattle.std.specs.Option.{option_copied}
use Rattle.fleet_audit.specs.Current.{is_passed}
use Rattle.fleet_audit.proofs.current.is_passed.Given as goal

abbrev pub invariant-loop-newer : goal.invariant-loop-newer
invariant-loop-newer l = is_passed (option_copied l.viewer) (take l.newer-index l.made) l.held.version ≡ false
