use Rattle.std.proofs.Common.{refl, rules}
use Rattle.photo_pull.proofs.Shown.{counts_found}
use Rattle.photo_pull.proofs.delta.PullDelta.counts.Goals as goal

pub returns : goal.returns
returns c = λ t s shows_t shows_s.
    counts_found c.args.target.now c.args.source.now c.args.self.now c.requires t s shows_t shows_s _
    (rw (c.filter.ensures, c.deref.ensures.value) at c.count_of-taken.ensures.count) (search rules) (search rules) (search rules) refl
