use Rattle.std.proofs.Common.{not, ◌∷◌, [], rules}
use Rattle.photo_device.specs.declared.held.Held.{Held}
use Rattle.photo_device.specs.Held.{is_listed}
use Rattle.photo_device.proofs.Order.{in_order-filter}
use Rattle.photo_device.proofs.Taken.{left_by_test}
use Rattle.photo_device.proofs.held_set.HeldSet.drop_version.Goals as goal

pub invariant_of-self : goal.invariant_of-self
invariant_of-self c =
    let left = left_by_test c.args.version c.self.inside.items c.args.self.now c.take_near.new.self c.take_near.result.0 c.take_near.ensures.none c.take_near.ensures.absent c.take_near.ensures.taken c.self.view_is c.requires (λ a r f h. search rules) in
    rw (left, ← c.self.view_is) (in_order-filter (λ (h : Held). not (is_listed (c.args.version ∷ []) h.version)) c.self.inside.items c.self.invariant)

pub returns : goal.returns
returns c = left_by_test c.args.version c.self.inside.items c.args.self.now c.take_near.new.self c.take_near.result.0 c.take_near.ensures.none c.take_near.ensures.absent c.take_near.ensures.taken c.self.view_is c.requires (λ a r f h. search rules)
