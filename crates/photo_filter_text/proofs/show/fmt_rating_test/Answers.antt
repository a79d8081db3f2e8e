use Rattle.std.proofs.Common.{◌∷◌, ◌++◌, codes, ap, arith}
use Rattle.std.proofs.Output.{has_written_of_eq}
use Rattle.photo_filter_text.specs.Printed.{cmp_text}
use Rattle.photo_filter_text.proofs.Dates.{one}
use Rattle.photo_filter_text.proofs.show.fmt_rating_test.Goals as goal

pub returns : goal.returns
returns g c = λ plain ok.
    let text = ap (λ t. codes "rating " ++ (cmp_text c.args.cmp ++ 32 ∷ t)) (one c.args.rating (omega (arith, c.value-value.ensures))) in
    has_written_of_eq _ _ _ _ _ text (c.write.ensures.writes plain ok)
