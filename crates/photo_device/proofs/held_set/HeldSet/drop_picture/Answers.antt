use Rattle.std.proofs.Common.{sym, ◌∙◌, eqb}
use Rattle.photo_device.specs.declared.held.Held.{Held}
use Rattle.photo_model.specs.Entry.{is_of_other}
use Rattle.photo_device.specs.Held.{entry_of}
use Rattle.photo_device.proofs.Order.{in_order-filter}
use Rattle.photo_device.proofs.Putting.{none_out}
use Rattle.photo_device.proofs.held_set.HeldSet.drop_picture.Goals as goal

pub returns-then-not-has_picture : goal.returns-then-not-has_picture
returns-then-not-has_picture c = sym (none_out (λ (h : Held). eqb h.picture c.args.picture) c.args.self.now (sym c.has_picture.ensures ∙ c.if-not-has_picture.true))

pub invariant_of-self : goal.invariant_of-self
invariant_of-self c =
    rw (c.remove_range.ensures, ← c.range_of-from.ensures.rest) (in_order-filter (λ (h : Held). is_of_other c.args.picture (entry_of h)) c.self.inside.items c.self.invariant)
