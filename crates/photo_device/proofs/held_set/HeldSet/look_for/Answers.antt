use Rattle.std.proofs.Common.{cond, sym, ap, ◌∙◌, rules}
use Rattle.std.specs.Prelude.{Some, None}
use Rattle.std.specs.Option.{option_copied}
use Rattle.photo_device.specs.declared.held.Held.{Held}
use Rattle.photo_device.specs.Held.{find_version_of, is_of}
use Rattle.photo_device.proofs.Order.{found_by_search, for_version}
use Rattle.photo_device.proofs.Putting.{passing}
use Rattle.photo_device.proofs.held_set.HeldSet.look_for.Goals as goal

pub returns-in_default : goal.returns-in_default
returns-in_default c =
    sym (ap (λ o. passing (λ (h : Held). is_of h c.args.picture c.args.version) (option_copied o)) c.in_default.is)
    ∙ found_by_search c.self.inside.items c.self.invariant _ _ _ (for_version c.args.picture c.args.version) c.find_failing_at.ensures (λ a r f h. search rules)
    ∙ ap (find_version_of c.args.picture c.args.version) c.self.view_is

pub returns-then-not-is_of : goal.returns-then-not-is_of
returns-then-not-is_of c =
    ap (λ b. cond b (Some c.in-Some.held.now) None) c.if-not-is_of.ensures
    ∙ sym (ap (λ o. passing (λ (h : Held). is_of h c.args.picture c.args.version) (option_copied o)) c.in-Some.is)
    ∙ found_by_search c.self.inside.items c.self.invariant _ _ _ (for_version c.args.picture c.args.version) c.find_failing_at.ensures (λ a r f h. search rules)
    ∙ ap (find_version_of c.args.picture c.args.version) c.self.view_is

pub returns : goal.returns
returns c =
    ap (λ b. cond b (Some c.in-Some.held.now) None) c.if-not-is_of.ensures
    ∙ sym (ap (λ o. passing (λ (h : Held). is_of h c.args.picture c.args.version) (option_copied o)) c.in-Some.is)
    ∙ found_by_search c.self.inside.items c.self.invariant _ _ _ (for_version c.args.picture c.args.version) c.find_failing_at.ensures (λ a r f h. search rules)
    ∙ ap (find_version_of c.args.picture c.args.version) c.self.view_is
