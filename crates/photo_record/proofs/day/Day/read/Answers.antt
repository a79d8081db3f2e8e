use Rattle.std.proofs.Common.{is_some, sym, ap, ◌∙◌, inl, inr, arith}
use Rattle.std.proofs.lemmas.Bool.{false≢true}
use Rattle.std.proofs.lemmas.Int.{ints}
use Rattle.jiff_core.specs.Date.{epoch_day}
use Rattle.photo_record.specs.Reading.{day_of_text, year_digits, month_digits, day_digits}
use Rattle.photo_record.proofs.DayLemmas.{IsWritten, number_is, none_is, month_short, day_short, ok_value, read_date, stored_day, other_length, other_byte, other_year, other_month, other_day, no_date}
use Rattle.photo_record.proofs.day.Day.read.Goals as goal
use Rattle.photo_record.proofs.day.Day.read.Goals.{then-bytes-ne10-via-then-bytes-ne10, then-bytes-ne10-via-else-bytes-ne10+then-bytes-ne45, then-bytes-ne10-via-else-bytes-ne10+else-bytes-ne45+then-bytes-ne45-2}

pub returns-then-bytes-ne10 : goal.returns-then-bytes-ne10
returns-then-bytes-ne10 c =
    elim c.then-bytes-ne10.branch [
      | then-bytes-ne10-via-then-bytes-ne10 w ↦ other_length c.as_bytes-bytes.result.now w.if-bytes-ne10.true
      | then-bytes-ne10-via-else-bytes-ne10+then-bytes-ne45 w ↦ other_byte c.as_bytes-bytes.result.now (inl w.if-bytes-ne45.true)
      | then-bytes-ne10-via-else-bytes-ne10+else-bytes-ne45+then-bytes-ne45-2 w ↦ other_byte c.as_bytes-bytes.result.now (inr w.if-bytes-ne45-2.true)
    ]
    ∙ ap day_of_text c.as_bytes-bytes.ensures.value

pub returns-in_err-year : goal.returns-in_err-year
returns-in_err-year c =
    c.from_residual.ensures ∙ other_year c.as_bytes-bytes.result.now (none_is (year_digits c.as_bytes-bytes.result.now) c.in_err-year.ensures)
    ∙ ap day_of_text c.as_bytes-bytes.ensures.value

pub returns-in_err-month : goal.returns-in_err-month
returns-in_err-month c =
    c.from_residual-in_err-month.ensures ∙ other_month c.as_bytes-bytes.result.now (none_is (month_digits c.as_bytes-bytes.result.now) c.in_err-month.ensures)
    ∙ ap day_of_text c.as_bytes-bytes.ensures.value

pub returns-in_err-day : goal.returns-in_err-day
returns-in_err-day c =
    c.from_residual-in_err-day.ensures ∙ other_day c.as_bytes-bytes.result.now (none_is (day_digits c.as_bytes-bytes.result.now) c.in_err-day.ensures)
    ∙ ap day_of_text c.as_bytes-bytes.ensures.value

pub overflow_cast-month : goal.overflow_cast-month
overflow_cast-month c = omega (arith, ints, month_short c.as_bytes-bytes.result.now c.in_ok-month.month c.in_ok-month.ensures)

pub overflow_cast-day : goal.overflow_cast-day
overflow_cast-day c = omega (arith, ints, day_short c.as_bytes-bytes.result.now c.in_ok-day.day c.in_ok-day.ensures)

pub returns-in_err-date : goal.returns-in_err-date
returns-in_err-date c =
    let written : IsWritten c.as_bytes-bytes.result.now c.in_ok-year.year c.in_ok-month.month c.in_ok-day.day = record {
      ten = c.if-bytes-ne10.false;
      fourth = c.if-bytes-ne45.false;
      seventh = c.if-bytes-ne45-2.false;
      years = number_is (year_digits c.as_bytes-bytes.result.now) c.in_ok-year.year c.in_ok-year.ensures;
      months = number_is (month_digits c.as_bytes-bytes.result.now) c.in_ok-month.month c.in_ok-month.ensures;
      days = number_is (day_digits c.as_bytes-bytes.result.now) c.in_ok-day.day c.in_ok-day.ensures;
    } in
    c.from_residual-in_err-date.ensures
    ∙ no_date c.as_bytes-bytes.result.now c.in_ok-year.year c.in_ok-month.month c.in_ok-day.day written
    (λ is. false≢true (ap is_some (sym c.in_err-date.was) ∙ c.ok.ensures.variant ∙ c.new.ensures.succeeds.1 is))
    ∙ ap day_of_text c.as_bytes-bytes.ensures.value

pub invariant_of-result : goal.invariant_of-result
invariant_of-result c =
    let written : IsWritten c.as_bytes-bytes.result.now c.in_ok-year.year c.in_ok-month.month c.in_ok-day.day = record {
      ten = c.if-bytes-ne10.false;
      fourth = c.if-bytes-ne45.false;
      seventh = c.if-bytes-ne45-2.false;
      years = number_is (year_digits c.as_bytes-bytes.result.now) c.in_ok-year.year c.in_ok-year.ensures;
      months = number_is (month_digits c.as_bytes-bytes.result.now) c.in_ok-month.month c.in_ok-month.ensures;
      days = number_is (day_digits c.as_bytes-bytes.result.now) c.in_ok-day.day c.in_ok-day.ensures;
    } in
    let is = ok_value c.new.result _ c.in_ok-date.date c.in_ok-date.ensures.value c.new.ensures.value in
    let read = read_date c.as_bytes-bytes.result.now c.in_ok-year.year c.in_ok-month.month c.in_ok-day.day c.in_ok-date.date written (c.new.ensures.succeeds.0 is.0) is.1 in
    (stored_day c.as_bytes-bytes.result.now c.to_unix_epoch_day.result (epoch_day c.in_ok-date.date) c.to_unix_epoch_day.ensures.bound (c.to_unix_epoch_day.ensures.value ∙ ap epoch_day c.to_plain.ensures) read).1

pub returns : goal.returns
returns c =
    let written : IsWritten c.as_bytes-bytes.result.now c.in_ok-year.year c.in_ok-month.month c.in_ok-day.day = record {
      ten = c.if-bytes-ne10.false;
      fourth = c.if-bytes-ne45.false;
      seventh = c.if-bytes-ne45-2.false;
      years = number_is (year_digits c.as_bytes-bytes.result.now) c.in_ok-year.year c.in_ok-year.ensures;
      months = number_is (month_digits c.as_bytes-bytes.result.now) c.in_ok-month.month c.in_ok-month.ensures;
      days = number_is (day_digits c.as_bytes-bytes.result.now) c.in_ok-day.day c.in_ok-day.ensures;
    } in
    let is = ok_value c.new.result _ c.in_ok-date.date c.in_ok-date.ensures.value c.new.ensures.value in
    let read = read_date c.as_bytes-bytes.result.now c.in_ok-year.year c.in_ok-month.month c.in_ok-day.day c.in_ok-date.date written (c.new.ensures.succeeds.0 is.0) is.1 in
    sym (stored_day c.as_bytes-bytes.result.now c.to_unix_epoch_day.result (epoch_day c.in_ok-date.date) c.to_unix_epoch_day.ensures.bound (c.to_unix_epoch_day.ensures.value ∙ ap epoch_day c.to_plain.ensures) read).0
    ∙ ap day_of_text c.as_bytes-bytes.ensures.value
