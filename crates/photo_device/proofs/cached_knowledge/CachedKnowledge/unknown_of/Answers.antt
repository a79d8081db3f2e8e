use Rattle.std.proofs.Common.{not, arith}
use Rattle.std.proofs.lemmas.Grind.{common_steps}
use Rattle.item_knowledge.specs.Fragments.{knows}
use Rattle.photo_device.specs.declared.held.Held.{Held}
use Rattle.photo_device.proofs.Order.{in_order-filter, one_passes}
use Rattle.photo_device.proofs.cached_knowledge.CachedKnowledge.unknown_of.Goals as goal

pub returns-clause-ordered : goal.returns-clause-ordered
returns-clause-ordered c = grind (arith, common_steps, in_order-filter)

pub returns-in_err-try_clone-clause-wanted : goal.returns-in_err-try_clone-clause-wanted
returns-in_err-try_clone-clause-wanted c =
    one_passes _ (λ (h : Held). not (knows c.args.self.now.known h.picture h.version)) c.args.set.now c.loop-held.found.items c.loop-held.held-iterator c.next.new.self c.in-Some.held.now (rw (← c.self.view_is) c.loop-held.invariant.1.0) (grind (arith, common_steps)) (grind (arith, common_steps))

pub returns-in_err-push-clause-wanted : goal.returns-in_err-push-clause-wanted
returns-in_err-push-clause-wanted c =
    one_passes _ (λ (h : Held). not (knows c.args.self.now.known h.picture h.version)) c.args.set.now c.loop-held.found.items c.loop-held.held-iterator c.next.new.self c.in-Some.held.now (rw (← c.self.view_is) c.loop-held.invariant.1.0) (grind (arith, common_steps)) (grind (arith, common_steps))
