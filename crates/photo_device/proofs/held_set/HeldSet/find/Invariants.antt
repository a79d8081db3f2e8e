use Rattle.std.proofs.Common.{◌≡◌}
use Rattle.photo_device.specs.Held.{find_version}
use Rattle.photo_device.proofs.held_set.HeldSet.find.Given as goal

-- what is found in what is left is what is found in all
abbrev pub invariant-loop-held : goal.invariant-loop-held
invariant-loop-held l = find_version l.version l.held-iterator ≡ find_version l.version l.self
