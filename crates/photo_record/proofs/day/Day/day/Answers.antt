use Rattle.std.proofs.Common.{arith}
use Rattle.photo_record.specs.Calendar.{date_of}
use Rattle.photo_record.proofs.DateLemmas.{date_ranges}
use Rattle.photo_record.proofs.day.Day.day.Goals as goal

pub returns-clause-in_range : goal.returns-clause-in_range
returns-clause-in_range c =
    let r = date_ranges (date_of c.args.self.now) c.date.ensures.in_calendar.in_calendar in
    omega (arith, r.day, c.date.ensures.value.day)
