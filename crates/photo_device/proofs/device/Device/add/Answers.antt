use Rattle.std.proofs.Common.{sym, ap, ◌∙◌, subst}
use Rattle.photo_version.specs.Version.{Version}
use Rattle.photo_device.specs.Device.{Kept}
use Rattle.photo_device.specs.Own.{IsNext}
use Rattle.photo_device.proofs.OwnLemmas.{next_unstaged}
use Rattle.photo_device.proofs.Changed.{makes_device}
use Rattle.photo_device.proofs.Staged.{none_prepared}
use Rattle.photo_device.proofs.device.Device.add.Goals as goal

pub invariant_of-self : goal.invariant_of-self
invariant_of-self c = rw (c.in_err-hold_next.ensures.store_kept, c.in_err-hold_next.ensures.out_kept, c.in_err-hold_next.ensures.known_kept, c.reserve.ensures) c.self.invariant

pub invariant_of-self-2 : goal.invariant_of-self-2
invariant_of-self-2 c =
    let next = subst (IsNext c.args.held) (sym c.self.view_is) c.requires.next in
    let counter = c.n-self-inside.ensures.value ∙ ap (λ (x : Version). x.number) (c.version-version.ensures ∙ next.next) in
    let is = rw c.reserve.ensures at c.in_ok-hold_next.ensures.ok in
    let none = none_prepared c.self.inside.prepared c.self.inside.knowledge.staged (ap (λ (d : Kept). d.staged) c.self.view_is ∙ c.requires.unstaged) in
    rw (none, counter, is.store, is.out) (record { device = makes_device c.args.place c.args.held _ c.hold_next.new.knowledge.known (next_unstaged c.args.held _ next) is.learned c.self.invariant.device; fits = is.staged })
