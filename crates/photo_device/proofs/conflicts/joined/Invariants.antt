use Rattle.std.proofs.Common.{true}
use Rattle.photo_device.proofs.Taken.{IsTaking}
use Rattle.photo_device.proofs.conflicts.joined.Given as goal

abbrev pub invariant-loop-held : goal.invariant-loop-held
invariant-loop-held l = IsTaking (λ _. true) l.store l.initial.list l.held-iterator l.list
