use Rattle.std.proofs.Common.{◌≡◌}
use Rattle.photo_device.specs.Cached.{AreKnown}
use Rattle.photo_device.proofs.cached_knowledge.CachedKnowledge.cache_all.Given as goal

abbrev pub invariant-loop-held : goal.invariant-loop-held
invariant-loop-held l =
    (l.self-inside.knowledge ≡ l.initial.self-inside.knowledge)
    × AreKnown l.self-inside.knowledge.known l.self-inside.cache.rows.items
