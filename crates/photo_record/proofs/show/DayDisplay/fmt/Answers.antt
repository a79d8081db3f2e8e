use Rattle.std.proofs.Common.{ap}
use Rattle.std.proofs.Output.{has_written_of_eq}
use Rattle.std.specs.Fmt.{styled_decimal}
use Rattle.photo_record.specs.Calendar.{date_of}
use Rattle.photo_record.proofs.Shown.{date_shown}
use Rattle.photo_record.proofs.show.DayDisplay.fmt.Goals as goal

pub returns-clause-writes : goal.returns-clause-writes
returns-clause-writes g c = λ plain ok.
    let first = ap (λ s. styled_decimal s c.year-year.result) c.laid_out.ensures in
    let second = ap (λ s. styled_decimal s c.month-month.result) c.laid_out-2.ensures in
    let third = ap (λ s. styled_decimal s c.day-day.result) c.laid_out-3.ensures in
    has_written_of_eq _ _ _ _ _
    (date_shown (date_of c.args.self.now) _ _ _ _ _ _ first second third c.year-year.ensures.value c.month-month.ensures.value c.day-day.ensures.value)
    (c.write.ensures.writes plain ok)
