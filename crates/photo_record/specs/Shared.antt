-- Machinery of the proofs: the words behind the shared pointer of `Words`; without a pointer there are none.
use Rattle.std.specs.Prelude.{ℕ, List, [], Option, Some, None}
use Rattle.std.specs.Arc.{arc_value}
use Rattle.std.specs.declared.sync.Arc.{Arc}

abbrev pub shared_words : {Z : Type 0} → Option (Arc (List (List ℕ)) Z) → List (List ℕ)
shared_words None = []
shared_words (Some words) = arc_value words
