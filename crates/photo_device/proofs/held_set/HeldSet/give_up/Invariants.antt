use Rattle.std.proofs.Common.{drop}
use Rattle.photo_device.proofs.Taken.{IsGivingUp}
use Rattle.photo_device.proofs.held_set.HeldSet.give_up.Given as goal

abbrev pub invariant-loop-held : goal.invariant-loop-held
invariant-loop-held l = IsGivingUp l.gone l.initial.self (drop l.held-index l.gone) l.self
