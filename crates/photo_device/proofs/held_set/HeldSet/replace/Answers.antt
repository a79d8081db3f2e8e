use Rattle.std.proofs.Common.{ap, ◌∙◌, rules}
use Rattle.photo_device.specs.Held.{replaced}
use Rattle.photo_device.proofs.Order.{in_order-replaced, replaced_by_tests}
use Rattle.photo_device.proofs.held_set.HeldSet.replace.Goals as goal

pub invariant_of-self : goal.invariant_of-self
invariant_of-self c = rw c.in_err-replace_between.ensures.err c.self.invariant

pub invariant_of-self-2 : goal.invariant_of-self-2
invariant_of-self-2 c =
    let e = replaced_by_tests c.self.inside.items c.self.invariant c.args.held _ c.in_ok-replace_between.ensures.ok (λ a r f h. search rules) (λ a r f h. search rules) in
    rw e (in_order-replaced c.args.held c.self.inside.items c.self.invariant)

pub returns-clause-ok : goal.returns-clause-ok
returns-clause-ok c =
    replaced_by_tests c.self.inside.items c.self.invariant c.args.held _ c.in_ok-replace_between.ensures.ok (λ a r f h. search rules) (λ a r f h. search rules) ∙ ap (replaced c.args.held) c.self.view_is
