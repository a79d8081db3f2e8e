use Rattle.std.proofs.Common.{◌≡◌, w32, w64, to_z, of_z, ap, ◌∙◌, subst}
use Rattle.std.proofs.lemmas.Result.{MatchResult-at_ok}
use Rattle.jiff_core.specs.Date.{epoch_day}
use Rattle.photo_record.specs.Limits.{IsDay}
use Rattle.photo_record.proofs.DateLemmas.{is_civil, widened, date_of-in}
use Rattle.photo_record.proofs.day.Day.date.Goals as goal

pub returns-clause-value : goal.returns-clause-value
returns-clause-value c =
    let range = subst IsDay c.self.view_is c.self.invariant in
    let counted = MatchResult-at_ok (λ d. epoch_day d ≡ to_z w64 (of_z w64 c.from.result)) (λ _. Unit {0}) c.unwrap.result c.unwrap.ensures c.from_unix_epoch_day.ensures.value in
    let wide = widened c.from.result c.args.self.now range (c.from.ensures ∙ ap (λ z. to_z w32 (of_z w32 z)) c.self.view_is) in
    is_civil c.unwrap.result (to_z w64 (of_z w64 c.from.result)) c.args.self.now counted wide range

pub returns-clause-in_calendar : goal.returns-clause-in_calendar
returns-clause-in_calendar c = date_of-in c.args.self.now (subst IsDay c.self.view_is c.self.invariant)
