-- The date of a day number: counting days off gives back the date from which they were counted.
use Rattle.std.proofs.Common.{◌≡◌, ℕ, zero, suc, List, Some, ◌+◌, ◌-◌, ◌<◌, ◌≤◌, ℤ, pos, negsuc, ◌+ℤ◌, ◌≤ℤ◌, true, unsigned_abs, w16, w32, w64, to_z, of_z, inl, inr, refl, sym, ap, ◌∙◌, subst, arith}
use Rattle.std.proofs.lemmas.Bool.{cond-true, cond-false, lt-ltb, le-ltb, cases_lt, and_from, le-leb}
use Rattle.std.proofs.lemmas.Int.{ints, to_z-of_z, to_z_pos}
use Rattle.std.specs.Int.{IsInRange}
use Rattle.jiff_core.specs.Calendar.{IsCivilDate, days_in_month, days_in_year, days_of_months, day_of_year, day_count, days_from_civil}
use Rattle.jiff_core.specs.Date.{epoch_day}
use Rattle.jiff_core.specs.declared.civil.date.Date.{Date}
use Rattle.jiff_core.proofs.CalendarLemmas.{days_from_civil-day_count, day_count-day_of_year, day_count-later_year, day_count-next_year, day_count-lt_year, day_of_year_bound, days_of_months-zero, days_of_months_more, days_of_months_mono, days_of_months_all, day_count-end, day_count_bounds, days_in_month_bounds}
use Rattle.jiff_core.proofs.DateLemmas.{civil as date_civil}
use Rattle.jiff_core.proofs.SignedLemmas.{signed_arith}
use Rattle.photo_record.specs.Calendar.{Civil, IsDateOf, is_date, day_number, civil, years_off, months_off, date_of}
use Rattle.photo_record.specs.Reading.{day_of_text}
use Rattle.photo_record.specs.Civil.{IsCivil}
use Rattle.photo_record.specs.Limits.{IsDay}
use Rattle.photo_record.proofs.DayLemmas.{day_count-zero, day_count-from_zero, days_from_zero, date_to, IsWritten, a_date}

years_off-is : (most year k days rest last : ℕ) → last ≡ year + k → k ≤ most → days + day_count (pos year) 1 1 ≡ day_count (pos last) 1 1 + rest → rest < days_in_year (pos last) → years_off most year days ≡ (last, rest)
unfolding years_off
years_off-is zero year k days rest last e le counted short =
    let same : year ≡ last = omega arith in
    let left : days ≡ rest = omega (arith, ap (λ y. day_count (pos y) 1 1) same) in
    λ i. (same i, left i)
years_off-is (suc most) year zero days rest last e le counted short =
    let same : year ≡ last = omega arith in
    let left : days ≡ rest = omega (arith, ap (λ y. day_count (pos y) 1 1) same) in
    cond-true _ _ _ (lt-ltb days (days_in_year (pos year)) (omega (arith, ap (λ y. days_in_year (pos y)) same)))
    ∙ (λ i. (same i, left i))
years_off-is (suc most) year (suc k) days rest last e le counted short =
    let later = day_count-later_year (pos year) (pos last) (omega (arith, signed_arith)) (omega (arith, signed_arith)) in
    let next = day_count-next_year (pos year) (pos (year + 1)) (omega (arith, signed_arith)) refl in
    cond-false _ _ _ (le-ltb days (days_in_year (pos year)) (omega arith))
    ∙ years_off-is most (year + 1) k (days - days_in_year (pos year)) rest last (omega arith) (omega arith) (omega arith) short

months_off-is : (most year month k days rest last : ℕ) → last ≡ month + k → k ≤ most → 1 ≤ month → days + days_of_months (pos year) (month - 1) ≡ days_of_months (pos year) (last - 1) + rest → rest < days_in_month (pos year) last → months_off most year month days ≡ (last, rest)
unfolding months_off
months_off-is zero year month k days rest last e le first counted short =
    let same : month ≡ last = omega arith in
    let left : days ≡ rest = omega (arith, ap (λ m. days_of_months (pos year) (m - 1)) same) in
    λ i. (same i, left i)
months_off-is (suc most) year month zero days rest last e le first counted short =
    let same : month ≡ last = omega arith in
    let left : days ≡ rest = omega (arith, ap (λ m. days_of_months (pos year) (m - 1)) same) in
    cond-true _ _ _ (lt-ltb days (days_in_month (pos year) month) (omega (arith, ap (λ m. days_in_month (pos year) m) same)))
    ∙ (λ i. (same i, left i))
months_off-is (suc most) year month (suc k) days rest last e le first counted short =
    let back : month + 1 - 1 ≡ month = omega arith in
    let more = days_of_months_more (pos year) month first in
    let later = days_of_months_mono (pos year) month (last - 1) (omega arith) in
    cond-false _ _ _ (le-ltb days (days_in_month (pos year) month) (omega arith))
    ∙ months_off-is most year (month + 1) k (days - days_in_month (pos year) month) rest last (omega arith) (omega arith) (omega arith) (omega (arith, ap (days_of_months (pos year)) back)) short

-- the date of a date's day number is that date
pub date_of-days : (year month day : ℕ) → IsCivilDate (pos year) month day → date_of (days_from_civil (pos year) month day) ≡ civil year month day
unfolding date_of
date_of-days year month day is =
    let high : year ≤ 9999 = omega (arith, signed_arith, is.0) in
    let count = days_from_civil-day_count (pos year) month day in
    let of_year = day_count-day_of_year (pos year) month day is.2.0 in
    let bound = day_of_year_bound (pos year) month day is in
    let days = unsigned_abs (days_from_civil (pos year) month day +ℤ pos 719_528) in
    let low = day_count-from_zero year month day is.2.0 in
    let above : days_from_civil (pos year) month day +ℤ pos 719_528 ≡ pos (day_count (pos year) month day - 3_652_425) = omega (arith, signed_arith, count, low) in
    let abs : days ≡ day_count (pos year) month day - 3_652_425 = ap unsigned_abs above in
    let counted : days + day_count (pos 0) 1 1 ≡ day_count (pos year) 1 1 + (day_of_year (pos year) month day - 1) = omega (arith, abs, of_year, day_count-zero, low) in
    let years = years_off-is 9999 0 year days (day_of_year (pos year) month day - 1) year (omega arith) high counted (omega arith) in
    let months = months_off-is 11 year 1 (month - 1) (day_of_year (pos year) month day - 1) (day - 1) month (omega arith) (omega arith) (omega arith) (omega (arith, days_of_months-zero (pos year))) (omega arith) in
    let last : day - 1 + 1 ≡ day = omega arith in
    ap (λ y. let m = months_off 11 y.0 1 y.1 in civil y.0 m.0 (m.1 + 1)) years
    ∙ ap (λ m. civil year m.0 (m.1 + 1)) months ∙ ap (λ d. civil year month d) last

pub is_civil : (date : Date) (day number : ℤ) → epoch_day date ≡ day → day ≡ number → IsDay number → IsCivil (date_of number) date
is_civil date day number counted same range = by date.year refl
  where
    by : (year : ℤ) → date.year ≡ year → IsCivil (date_of number) date
    by (pos y) e =
        let is : IsCivilDate (pos y) date.month date.day = subst (λ z. IsCivilDate z date.month date.day) e (date_civil date) in
        let at : days_from_civil (pos y) date.month date.day ≡ number = ap (λ z. days_from_civil z date.month date.day) (sym e) ∙ counted ∙ same in
        let parts : date_of number ≡ civil y date.month date.day = ap date_of (sym at) ∙ date_of-days y date.month date.day is in
        record {
          year = e ∙ ap (λ d. pos d.year) (sym parts);
          month = ap (λ d. d.month) (sym parts);
          day = ap (λ d. d.day) (sym parts);
        }
    by (negsuc n) e =
        let is : IsCivilDate (negsuc n) date.month date.day = subst (λ z. IsCivilDate z date.month date.day) e (date_civil date) in
        let at : days_from_civil (negsuc n) date.month date.day ≡ number = ap (λ z. days_from_civil z date.month date.day) (sym e) ∙ counted ∙ same in
        let before = day_count-lt_year (negsuc n) date.month date.day (pos 0) 1 1 is (omega arith) (omega (arith, signed_arith)) in
        absurd (omega (arith, signed_arith, days_from_civil-day_count (negsuc n) date.month date.day, day_count-zero, before, at, range.0))

-- a day's number survives widening to 64 bits
pub widened : (wide number : ℤ) → IsDay number → wide ≡ to_z w32 (of_z w32 number) → to_z w64 (of_z w64 wide) ≡ number
widened wide number range same =
    let is = same ∙ to_z-of_z w32 number (omega (arith, ints, range.0, range.1)) in
    ap (λ z. to_z w64 (of_z w64 z)) is ∙ to_z-of_z w64 number (omega (arith, ints, range.0, range.1))

-- ---- each day number has a date

-- so many days after the first of a year lie in that year or a later one
record IsInYears (most year days : ℕ) (off : ℕ × ℕ) : Type 0 where
  from : year ≤ off.0
  to : off.0 ≤ year + most
  counted : days + day_count (pos year) 1 1 ≡ day_count (pos off.0) 1 1 + off.1
  short : off.1 < days_in_year (pos off.0)

years_off-in : (most year days : ℕ) → days + day_count (pos year) 1 1 < day_count (pos (year + most + 1)) 1 1 → IsInYears most year days (years_off most year days)
unfolding years_off
years_off-in zero year days below =
    let next = day_count-next_year (pos year) (pos (year + 1)) (omega (arith, signed_arith)) refl in
    let same : year + 0 + 1 ≡ year + 1 = omega arith in
    record {
      from = omega arith;
      to = omega arith;
      counted = omega arith;
      short = omega (arith, next, ap (λ y. day_count (pos y) 1 1) same);
    }
years_off-in (suc most) year days below =
    elim (cases_lt days (days_in_year (pos year))) [
      | inl lt ↦
          subst (IsInYears (suc most) year days) (sym (cond-true _ _ _ (lt-ltb days (days_in_year (pos year)) lt)))
          (record { from = omega arith; to = omega arith; counted = omega arith; short = lt })
      | inr ge ↦
          let next = day_count-next_year (pos year) (pos (year + 1)) (omega (arith, signed_arith)) refl in
          let same : year + suc most + 1 ≡ year + 1 + most + 1 = omega arith in
          let rest = years_off-in most (year + 1) (days - days_in_year (pos year)) (omega (arith, next, ap (λ y. day_count (pos y) 1 1) same)) in
          subst (IsInYears (suc most) year days) (sym (cond-false _ _ _ (le-ltb days (days_in_year (pos year)) ge)))
          (record {
            from = omega (arith, rest.from);
            to = omega (arith, rest.to);
            counted = omega (arith, rest.counted, next);
            short = rest.short;
          })
    ]

-- so many days after the first of a month lie in that month or a later one
record IsInMonths (most year month days : ℕ) (off : ℕ × ℕ) : Type 0 where
  from : month ≤ off.0
  to : off.0 ≤ month + most
  counted : days + days_of_months (pos year) (month - 1) ≡ days_of_months (pos year) (off.0 - 1) + off.1
  short : off.1 < days_in_month (pos year) off.0

months_off-in : (most year month days : ℕ) → 1 ≤ month → days + days_of_months (pos year) (month - 1) < days_of_months (pos year) (month + most) → IsInMonths most year month days (months_off most year month days)
unfolding months_off
months_off-in zero year month days first below =
    let more = days_of_months_more (pos year) month first in
    let same : month + 0 ≡ month = omega arith in
    record {
      from = omega arith;
      to = omega arith;
      counted = omega arith;
      short = omega (arith, more, ap (days_of_months (pos year)) same);
    }
months_off-in (suc most) year month days first below =
    elim (cases_lt days (days_in_month (pos year) month)) [
      | inl lt ↦
          subst (IsInMonths (suc most) year month days) (sym (cond-true _ _ _ (lt-ltb days (days_in_month (pos year) month) lt)))
          (record { from = omega arith; to = omega arith; counted = omega arith; short = lt })
      | inr ge ↦
          let more = days_of_months_more (pos year) month first in
          let back : month + 1 - 1 ≡ month = omega arith in
          let same : month + suc most ≡ month + 1 + most = omega arith in
          let rest = months_off-in most year (month + 1) (days - days_in_month (pos year) month) (omega arith)
          (omega (arith, more, ap (days_of_months (pos year)) same, ap (days_of_months (pos year)) back)) in
          subst (IsInMonths (suc most) year month days) (sym (cond-false _ _ _ (le-ltb days (days_in_month (pos year) month) ge)))
          (record {
            from = omega (arith, rest.from);
            to = omega (arith, rest.to);
            counted = omega (arith, rest.counted, more, ap (days_of_months (pos year)) back);
            short = rest.short;
          })
    ]

abs_from : (z : ℤ) → pos 0 ≤ℤ z → z ≡ pos (unsigned_abs z)
abs_from (pos n) h = refl
abs_from (negsuc n) h = absurd (omega (arith, signed_arith))

pub date_of-in : (number : ℤ) → IsDay number → IsDateOf number (date_of number)
unfolding date_of
date_of-in number range =
    let days = unsigned_abs (number +ℤ pos 719_528) in
    let is = abs_from (number +ℤ pos 719_528) (omega (arith, signed_arith, range.0)) in
    let below : days + day_count (pos 0) 1 1 < day_count (pos (0 + 9999 + 1)) 1 1 = omega (arith, signed_arith, is, range.1, day_count-zero, day_count-end) in
    let years = years_off-in 9999 0 days below in
    let y = years_off 9999 0 days in
    let months = months_off-in 11 y.0 1 y.1 (omega arith) (omega (arith, years.short, days_of_months-zero (pos y.0), days_of_months_all (pos y.0))) in
    let m = months_off 11 y.0 1 y.1 in
    let of_year = day_count-day_of_year (pos y.0) m.0 (m.1 + 1) (omega arith) in
    record {
      in_calendar =
          and_from _ _ (le-leb y.0 9999 (omega (arith, years.to)))
          (and_from _ _ (and_from _ _ (le-leb 1 m.0 months.from) (le-leb m.0 12 (omega (arith, months.to))))
          (and_from _ _ (le-leb 1 (m.1 + 1) (omega arith)) (le-leb (m.1 + 1) (days_in_month (pos y.0) m.0) (omega (arith, months.short)))));
      counted = omega (arith, signed_arith, is, days_from_civil-day_count (pos y.0) m.0 (m.1 + 1), of_year, years.counted, months.counted, days_of_months-zero (pos y.0), day_count-zero);
    }

-- the date of a date's day number is that date
pub date_of-number : (d : Civil) → is_date d ≡ true → date_of (day_number d) ≡ d
date_of-number d is =
    let t = date_to d.year d.month d.day is in
    date_of-days d.year d.month d.day (t.0, (omega (arith, signed_arith, t.1), omega (arith, signed_arith, t.1)), (omega (arith, signed_arith, t.2), omega (arith, signed_arith, t.2)))

pub day_number-in : (d : Civil) → is_date d ≡ true → IsDay (day_number d)
day_number-in d is =
    let t = date_to d.year d.month d.day is in
    let first : 1 ≤ d.day = omega (arith, signed_arith, t.2) in
    let valid : IsCivilDate (pos d.year) d.month d.day = (t.0, (omega (arith, signed_arith, t.1), omega (arith, signed_arith, t.1)), (first, omega (arith, signed_arith, t.2))) in (
      days_from_zero d.year d.month d.day first,
      omega (arith, signed_arith, days_from_civil-day_count (pos d.year) d.month d.day, day_count_bounds (pos d.year) d.month d.day valid),
    )

-- the greatest values of a date's parts
pub record IsInRanges (d : Civil) : Type 0 where
  pub year : d.year ≤ 9999
  pub month : IsInRange 1 12 d.month
  pub day : IsInRange 1 31 d.day

pub date_ranges : (d : Civil) → is_date d ≡ true → IsInRanges d
date_ranges d is =
    let t = date_to d.year d.month d.day is in
    record {
      year = omega (arith, signed_arith, t.0);
      month = (omega (arith, signed_arith, t.1), omega (arith, signed_arith, t.1));
      day = (omega (arith, signed_arith, t.2), omega (arith, signed_arith, t.2, days_in_month_bounds (pos d.year) d.month));
    }

pub year_cast : (date : Date) (d : Civil) → IsCivil d date → d.year ≤ 9999 → unsigned_abs (to_z w16 (of_z w16 date.year)) ≤ 9999
year_cast date d is high =
    subst (λ z. unsigned_abs (to_z w16 (of_z w16 z)) ≤ 9999) (sym is.year)
    (omega (arith, high, ap unsigned_abs (to_z_pos w16 d.year (omega arith))))

-- a text that writes the date of a day is read as that day
pub read_back : (text : List ℕ) (day : ℤ) → IsDay day → IsWritten text (date_of day).year (date_of day).month (date_of day).day → day_of_text text ≡ Some day
read_back text day range h =
    let date = date_of day in
    let is = date_of-in day range in
    a_date text date.year date.month date.day h (date_to date.year date.month date.day is.in_calendar) ∙ ap (λ n. Some n) is.counted
