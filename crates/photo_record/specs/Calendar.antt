-- Days of the proleptic Gregorian calendar: by number, and by year, month and day.
use Rattle.std.specs.Prelude.{◌≡◌, true, ℕ, zero, suc, ◌+◌, ◌-◌, Bool, ◌&&◌, if◌then◌else◌, nat_lt, nat_le, ℤ, pos, ◌-ℤ◌, unsigned_abs}
use Rattle.photo_record.specs.Limits.{first_day, max_year}
use Rattle.jiff_core.specs.Calendar.{days_in_month, days_in_year, days_from_civil}

-- a date: its year, its month from 1, and its day of the month from 1
pub record Civil : Type 0 where
  pub year : ℕ
  pub month : ℕ
  pub day : ℕ

abbrev pub civil : ℕ → ℕ → ℕ → Civil
civil year month day = record { year = year; month = month; day = day }

-- the calendar has the date
abbrev pub is_date : Civil → Bool
is_date d =
    nat_le d.year max_year && ((nat_le 1 d.month && nat_le d.month 12)
    && (nat_le 1 d.day && nat_le d.day (days_in_month (pos d.year) d.month)))

-- the day number of a date; 1970-01-01 is 0
abbrev pub day_number : Civil → ℤ
day_number d = days_from_civil (pos d.year) d.month d.day

-- the calendar has the date, and its day number is this number
pub record IsDateOf (number : ℤ) (date : Civil) : Type 0 where
  pub in_calendar : is_date date ≡ true
  pub counted : day_number date ≡ number

-- The year in which a day lies, by counting off at most so many years, with the days that remain.
unfoldable pub years_off : ℕ → ℕ → ℕ → ℕ × ℕ
years_off zero year days = (year, days)
years_off (suc most) year days =
    if nat_lt days (days_in_year (pos year)) then (year, days)
    else years_off most (year + 1) (days - days_in_year (pos year))

-- The month in which a day lies, by counting off at most so many months, with the days that remain.
unfoldable pub months_off : ℕ → ℕ → ℕ → ℕ → ℕ × ℕ
months_off zero year month days = (month, days)
months_off (suc most) year month days =
    if nat_lt days (days_in_month (pos year) month) then (month, days)
    else months_off most year (month + 1) (days - days_in_month (pos year) month)

-- the date of a day number that isn't before 0000-01-01
unfoldable pub date_of : ℤ → Civil
date_of number =
    let years = years_off max_year 0 (unsigned_abs (number -ℤ first_day)) in
    let months = months_off 11 years.0 1 years.1 in
    civil years.0 months.0 (months.1 + 1)
