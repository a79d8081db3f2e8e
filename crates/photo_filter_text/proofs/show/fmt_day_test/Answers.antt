use Rattle.std.proofs.Common.{◌∷◌, ◌++◌, codes, ap, subst}
use Rattle.std.proofs.Output.{has_written_of_eq}
use Rattle.photo_record.specs.Limits.{IsDay}
use Rattle.photo_filter_text.specs.Printed.{cmp_text}
use Rattle.photo_filter_text.proofs.Dates.{date_shown}
use Rattle.photo_filter_text.proofs.show.fmt_day_test.Goals as goal

pub returns : goal.returns
returns g c = λ plain ok.
    let text = ap (λ t. codes "day " ++ (cmp_text c.args.cmp ++ 32 ∷ t)) (date_shown c.args.day (subst IsDay c.number-number.ensures.value c.number-number.ensures.in_range)) in
    has_written_of_eq _ _ _ _ _ text (c.write.ensures.writes plain ok)
