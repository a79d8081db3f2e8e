-- Machinery of the proofs: the list behind an optional shared pointer; without a pointer it is empty.
use Rattle.std.specs.Prelude.{List, [], Option, None, Some}
use Rattle.std.specs.Arc.{arc_value}
use Rattle.std.specs.declared.sync.Arc.{Arc}
use Rattle.std.specs.declared.vec.Vec.{Vec}

abbrev pub items_of : {X Y Z : Type 0} → Option (Arc (Vec X Y) Z) → List X
items_of None = []
items_of (Some shared) = (arc_value shared).items
