use Rattle.std.proofs.Common.{◌≡◌, take}
use Rattle.std.specs.Prelude.{map}
use Rattle.photo_device.specs.declared.held.Held.{Held}
use Rattle.photo_device.proofs.conflicts.versions_of.Given as goal

abbrev pub invariant-loop-held : goal.invariant-loop-held
invariant-loop-held l = l.versions.items ≡ map (λ (h : Held). h.version) (take l.held-index l.run)
