use Rattle.photo_record.proofs.DateLemmas.{date_of-in, day_number-in, date_of-number}
use Rattle.photo_record.proofs.laws.days_are_dates.Goals as goal

pub returns-clause-dates : goal.returns-clause-dates
returns-clause-dates c = date_of-in

pub returns-clause-days : goal.returns-clause-days
returns-clause-days c = day_number-in

pub returns-clause-one_to_one : goal.returns-clause-one_to_one
returns-clause-one_to_one c = date_of-number
