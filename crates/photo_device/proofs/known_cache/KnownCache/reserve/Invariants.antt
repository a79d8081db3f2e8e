use Rattle.std.specs.Prelude.{suc, ◌-◌, List, length}
use Rattle.item_knowledge.specs.Fragments.{Fragment}
use Rattle.photo_device.specs.Cached.{AreKnown, IsSmall}
use Rattle.photo_device.proofs.known_cache.KnownCache.reserve.Given as goal

abbrev pub invariant-loop-self : goal.invariant-loop-self
invariant-loop-self l = ((known : List Fragment) → AreKnown known l.fn.self.rows.items → AreKnown known l.self.rows.items) × (IsSmall l.fn.self.rows.items → IsSmall l.self.rows.items)

abbrev pub decreases-loop-self : goal.decreases-loop-self
decreases-loop-self l = suc l.place - length l.self.rows.items
