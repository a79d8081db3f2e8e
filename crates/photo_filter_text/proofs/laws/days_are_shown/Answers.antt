use Rattle.std.proofs.Common.{sym}
use Rattle.photo_filter_text.proofs.Dates.{date_shown}
use Rattle.photo_filter_text.proofs.laws.days_are_shown.Goals as goal

pub returns : goal.returns
returns c = λ day range. sym (date_shown day range)
