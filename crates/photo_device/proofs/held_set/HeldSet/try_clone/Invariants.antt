use Rattle.std.proofs.Common.{◌≡◌, ◌++◌}
use Rattle.photo_device.proofs.held_set.HeldSet.try_clone.Given as goal

-- what was put, and what of the whole is left
abbrev pub invariant-loop-held : goal.invariant-loop-held
invariant-loop-held l = l.items ++ l.held-iterator ≡ l.self-inside.items
