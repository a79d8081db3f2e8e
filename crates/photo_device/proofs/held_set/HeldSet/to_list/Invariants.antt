use Rattle.std.proofs.Common.{◌≡◌, ◌++◌}
use Rattle.photo_device.proofs.held_set.HeldSet.to_list.Given as goal

-- what was put, and what of the whole is left
abbrev pub invariant-loop-held : goal.invariant-loop-held
invariant-loop-held l = l.items.items ++ l.held-iterator ≡ l.self
