use Rattle.std.proofs.Common.{◌-◌, length, ap, ◌∙◌}
use Rattle.photo_device.specs.Device.{Kept}
use Rattle.photo_device.proofs.Changed.{narrows_device, shows_narrowed, moved_away}
use Rattle.photo_device.proofs.Staged.{shows_unstaged, none_fits}
use Rattle.photo_device.proofs.device.Device.narrow.Goals as goal

pub invariant_of-self-2 : goal.invariant_of-self-2
invariant_of-self-2 c =
    let none = ap (λ (d : Kept). d.staged) (c.self.view_is ∙ c.unstage.ensures) in
    rw (c.in-Ok.ensures.kept, c.in-Ok.ensures.out) (none_fits c.self.inside.prepared c.self.inside.knowledge.staged _ _ c.self.invariant none (narrows_device c.args.filter _ c.self.invariant.device))

pub returns-clause-shows : goal.returns-clause-shows
returns-clause-shows c =
    λ m shows.
    rw (c.in-Ok.ensures.kept, c.in-Ok.ensures.out) (shows_narrowed c.args.filter _ m (shows_unstaged _ _ m (c.self.view_is ∙ c.unstage.ensures) shows))

pub returns-clause-moved : goal.returns-clause-moved
returns-clause-moved c =
    λ m shows.
    let kept = c.len-2.ensures ∙ ap length c.in-Ok.ensures.kept in
    (λ i. c.len.ensures i - kept i) ∙ moved_away c.args.filter _ m (shows_unstaged _ _ m (c.self.view_is ∙ c.unstage.ensures) shows)
