use Rattle.std.proofs.Common.{ap, ◌∙◌, rules}
use Rattle.std.specs.Prelude.{◌==◌, Some, None}
use Rattle.photo_device.specs.Held.{has_picture}
use Rattle.photo_device.proofs.Order.{told_by_search, for_picture}
use Rattle.photo_device.proofs.Putting.{told_if}
use Rattle.photo_device.proofs.held_set.HeldSet.has_picture.Goals as goal

pub returns-in-Some : goal.returns-in-Some
returns-in-Some c =
    c.eq.ensures
    ∙ ap (λ picture. picture == c.args.picture) c.picture.ensures
    ∙ told_if (λ h. h.picture == c.args.picture) c.in-Some.held.now
    ∙ told_by_search c.self.inside.items c.self.invariant _ _ (Some c.in-Some.held.now) (for_picture c.args.picture) (λ t h parts. c.in-Some.ensures t h parts) (λ a r f h. search rules)
    ∙ ap (has_picture c.args.picture) c.self.view_is

pub returns-in-None : goal.returns-in-None
returns-in-None c =
    told_by_search c.self.inside.items c.self.invariant _ _ None (for_picture c.args.picture) (λ t h parts. c.in-None.ensures t h parts) (λ a r f h. search rules)
    ∙ ap (has_picture c.args.picture) c.self.view_is
