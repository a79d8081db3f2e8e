use Rattle.std.proofs.Common.{◌≡◌, ◌++◌, map}
use Rattle.test_devices.proofs.devices.showing.pictures_of.Given as goal

-- the pictures so far, followed by those of the rest, are all pictures of the set
abbrev pub invariant-loop-held : goal.invariant-loop-held
invariant-loop-held l = l.pictures.items ++ map (λ held. held.picture) l.held-iterator ≡ map (λ held. held.picture) l.set
