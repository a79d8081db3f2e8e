use Rattle.photo_record.specs.Calendar.{date_of}
use Rattle.photo_record.proofs.DateLemmas.{date_ranges, year_cast}
use Rattle.photo_record.proofs.day.Day.year.Goals as goal

pub returns-clause-in_range : goal.returns-clause-in_range
returns-clause-in_range c =
    let r = date_ranges (date_of c.args.self.now) c.date.ensures.in_calendar.in_calendar in
    year_cast c.date.result (date_of c.args.self.now) c.date.ensures.value r.year
