use Rattle.std.proofs.Common.{refl}
use Rattle.std.specs.Fmt.{digits}
use Rattle.photo_version.proofs.laws.examples.Goals as goal

pub returns-clause-epochs : goal.returns-clause-epochs
returns-clause-epochs c = record { with_its_next = refl; of_next = refl; not_of_next = refl; in_order = refl; other_device = refl; next = refl; earlier = refl; not_later = refl; not_another = refl }

pub returns-clause-texts : goal.returns-clause-texts
unfolding digits
returns-clause-texts c = record { first_epoch = refl; later_epoch = refl; tens = refl; last_device = refl }

pub returns-clause-vectors : goal.returns-clause-vectors
returns-clause-vectors c = record {
  union = refl;
  other_way = refl;
  with_an_earlier = refl;
  with_a_later = refl;
  with_another = refl;
  last = refl;
  later = refl;
  of_another = refl;
  within = refl;
  number_missing = refl;
  author_missing = refl;
  vector = refl;
  out_of_order = refl;
  twice = refl;
  bound_zero = refl;
}
