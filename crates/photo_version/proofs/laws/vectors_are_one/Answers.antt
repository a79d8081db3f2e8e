use Rattle.photo_version.proofs.VectorLemmas.{one_vector, same_bounds-Decides}
use Rattle.photo_version.proofs.laws.vectors_are_one.Goals as goal

pub returns-clause-one : goal.returns-clause-one
returns-clause-one c = one_vector

pub returns-clause-equality : goal.returns-clause-equality
returns-clause-equality c = same_bounds-Decides
