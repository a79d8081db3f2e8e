use Rattle.std.proofs.Common.{◌≡◌, ◌∙◌, subst, true}
use Rattle.photo_version.specs.Vector.{is_vector, is_within}
use Rattle.photo_version.proofs.VectorLemmas.{within_inclusion}
use Rattle.photo_version.proofs.vector.Vector.leq.Goals as goal

pub returns-clause-inclusion : goal.returns-clause-inclusion
returns-clause-inclusion c =
    let xs = c.args.self.now in
    let ys = c.args.other.now in
    let value : c.is_within.result ≡ is_within xs ys = c.is_within.ensures ∙ (λ i. is_within (c.entries.ensures.value i) (c.entries-2.ensures.value i)) in
    let vector : is_vector xs ≡ true = subst (λ zs. is_vector zs ≡ true) c.entries.ensures.value c.entries.ensures.vector in
    rw value (within_inclusion xs ys vector)
