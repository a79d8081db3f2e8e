use Rattle.std.proofs.Common.{◌≡◌, ◌++◌, not}
use Rattle.std.specs.Prelude.{filter}
use Rattle.item_knowledge.specs.Fragments.{knows}
use Rattle.photo_device.specs.declared.held.Held.{Held}
use Rattle.photo_device.proofs.cached_knowledge.CachedKnowledge.unknown_by.Given as goal

abbrev pub invariant-loop-held : goal.invariant-loop-held
invariant-loop-held l =
    let is_new = λ (h : Held). not (knows l.self-inside.knowledge.known h.picture h.version) in
    l.found.items ++ filter is_new l.held-iterator ≡ filter is_new l.set
