use Rattle.std.proofs.Common.{◌<◌, sym, ap, ◌∙◌, subst}
use Rattle.std.proofs.Math.Facts.{Fits-lt-pow}
use Rattle.std.specs.Prelude.{None}
use Rattle.photo_version.specs.Author.{author_at, epoch_of_author}
use Rattle.photo_device.specs.Resorted.{IsResorted}
use Rattle.photo_device.specs.Device.{Kept, Shows}
use Rattle.photo_device.proofs.ResortLemmas.{resorted_device, resorted_shows}
use Rattle.photo_device.proofs.Staged.{none_prepared, shows_staged}
use Rattle.photo_device.proofs.device.Device.begin_epoch.Goals as goal

pub invariant_of-self : goal.invariant_of-self
invariant_of-self c =
    let sorted = subst (λ (e : Kept). IsResorted c.args.filter e.store e.out c.args.resorted) (sym c.self.view_is) c.requires.resorted in
    let later = subst (λ (e : Kept). epoch_of_author e.author < c.args.epoch) (sym c.self.view_is) c.requires.later in
    let none = none_prepared c.self.inside.prepared c.self.inside.knowledge.staged (ap (λ (d : Kept). d.staged) c.self.view_is ∙ c.requires.unstaged) in
    let author = c.at-self-inside.ensures ∙ ap (λ n. author_at n c.args.epoch) c.value.ensures in
    rw (none, author, c.replace.ensures, sorted.store, sorted.out) (resorted_device c.args.epoch c.args.filter c.args.resorted _ sorted c.self.invariant.device later (Fits-lt-pow c.ranges.epoch))

pub returns-clause-shows : goal.returns-clause-shows
returns-clause-shows c = λ m shows.
    let sorted = subst (λ (e : Kept). IsResorted c.args.filter e.store e.out c.args.resorted) (sym c.self.view_is) c.requires.resorted in
    let before = shows_staged _ None m (subst (λ (e : Kept). Shows e m) (sym c.self.view_is) shows) in
    let none = none_prepared c.self.inside.prepared c.self.inside.knowledge.staged (ap (λ (d : Kept). d.staged) c.self.view_is ∙ c.requires.unstaged) in
    let author = c.at-self-inside.ensures ∙ ap (λ n. author_at n c.args.epoch) c.value.ensures in
    rw (none, author, c.replace.ensures, sorted.store, sorted.out) (resorted_shows c.args.epoch c.args.filter c.args.resorted _ sorted c.self.invariant.device m before)
