use Rattle.std.proofs.Common.{rules}
use Rattle.photo_version.proofs.VectorLemmas.{positive_at}
use Rattle.photo_version.proofs.vector.Vector.entry.Goals as goal

pub returns-clause-above_zero : goal.returns-clause-above_zero
returns-clause-above_zero c =
    let positive = positive_at c.entries.result.now c.args.i c.index-entries-i.result c.entries.ensures.vector (search rules) in
    search (rules, positive)
