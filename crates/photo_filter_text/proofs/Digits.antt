-- Digits, and the date in a text.
use Rattle.std.proofs.Common.{◌≡◌, ℕ, zero, suc, ◌+◌, ◌-◌, ◌/◌, ◌%◌, ◌<◌, ◌≤◌, true, false, ◌||◌, eqb, ℤ, Some, ◌++◌, length, get_or, refl, sym, ap, ◌∙◌, arith}
use Rattle.std.specs.Char.{digit_value, is_ascii_digit}
use Rattle.std.proofs.lemmas.Bool.{and_from, le-leb, lt-ltb, le-ltb, ne_eqb, cond-true, cond-false}
use Rattle.photo_record.specs.Calendar.{Civil, date_of}
use Rattle.photo_record.specs.Limits.{IsDay}
use Rattle.photo_record.specs.Reading.{day_of_text, is_number, number}
use Rattle.photo_record.proofs.DayLemmas.{IsWritten}
use Rattle.photo_record.proofs.DateLemmas.{date_of-in, date_ranges, read_back}
use Rattle.photo_filter_text.specs.Printed.{digit, two_digits, civil_text, date_text}
use Rattle.photo_filter_text.specs.Cuts.{ends_token}

is_digit : (n : ℕ) → n < 10 → is_ascii_digit (digit n) ≡ true
is_digit n h = and_from _ _ (le-leb 48 (48 + n) (omega arith)) (le-leb (48 + n) 57 (omega arith))

value_digit : (n : ℕ) → n < 10 → digit_value (digit n) ≡ n
value_digit n h =
    let e : 48 + n - 48 ≡ n = omega arith in
    cond-false _ _ _ (le-ltb (48 + n) 48 (omega arith)) ∙ (cond-true _ _ _ (lt-ltb (48 + n) 58 (omega arith)) ∙ e)

number-two : (n : ℕ) → n < 100 → (is_number (two_digits n) ≡ true) × (number (two_digits n) ≡ n)
number-two n h =
    let t : n / 10 < 10 = omega arith in
    let o : n % 10 < 10 = omega arith in
    let e = value_digit (n / 10) t in
    let f = value_digit (n % 10) o in
    (and_from _ _ (is_digit (n / 10) t) (and_from _ _ (is_digit (n % 10) o) refl), omega arith)

number-four : (n : ℕ) → n ≤ 9999 → let text = two_digits (n / 100) ++ two_digits (n % 100) in (is_number text ≡ true) × (number text ≡ n)
number-four n h =
    let a : n / 100 / 10 < 10 = omega arith in
    let b : n / 100 % 10 < 10 = omega arith in
    let c : n % 100 / 10 < 10 = omega arith in
    let d : n % 100 % 10 < 10 = omega arith in
    let ea = value_digit (n / 100 / 10) a in
    let eb = value_digit (n / 100 % 10) b in
    let ec = value_digit (n % 100 / 10) c in
    let ed = value_digit (n % 100 % 10) d in
    (and_from _ _ (is_digit (n / 100 / 10) a) (and_from _ _ (is_digit (n / 100 % 10) b) (and_from _ _ (is_digit (n % 100 / 10) c) (and_from _ _ (is_digit (n % 100 % 10) d) refl))), omega arith)

-- a printed date has the digits of its year, month and day
civil-written : (c : Civil) → c.year ≤ 9999 → c.month < 100 → c.day < 100 → IsWritten (civil_text c) c.year c.month c.day
civil-written c ly lm ld =
    let year = number-four c.year ly in
    let month = number-two c.month lm in
    let day = number-two c.day ld in
    record {
      ten = refl;
      fourth = refl;
      seventh = refl;
      years = (year.0, sym year.1);
      months = (month.0, sym month.1);
      days = (day.0, sym day.1);
    }

pub date-read : (n : ℤ) → IsDay n → day_of_text (date_text n) ≡ Some n
unfolding date_text
date-read n range =
    let parts = date_ranges (date_of n) (date_of-in n range).in_calendar in
    read_back (date_text n) n range (civil-written (date_of n) parts.year (omega (arith, parts.month)) (omega (arith, parts.day)))

-- digits and dashes, the bytes of a date, don't end a token
pub plain-byte : (b : ℕ) → 45 ≤ b → ends_token b ≡ false
plain-byte b h = ap (λ x. x || (eqb b 40 || eqb b 41)) (ne_eqb b 32 (omega arith)) ∙ ap (λ x. x || eqb b 41) (ne_eqb b 40 (omega arith)) ∙ ne_eqb b 41 (omega arith)

digit-plain : (n : ℕ) → ends_token (digit n) ≡ false
digit-plain n = plain-byte (48 + n) (omega arith)

civil-plain : (c : Civil) (k : ℕ) → k < 10 → ends_token (get_or (civil_text c) k 0) ≡ false
civil-plain c zero h = digit-plain (c.year / 100 / 10)
civil-plain c (suc zero) h = digit-plain (c.year / 100 % 10)
civil-plain c (suc (suc zero)) h = digit-plain (c.year % 100 / 10)
civil-plain c (suc (suc (suc zero))) h = digit-plain (c.year % 100 % 10)
civil-plain c (suc (suc (suc (suc zero)))) h = refl
civil-plain c (suc (suc (suc (suc (suc zero))))) h = digit-plain (c.month / 10)
civil-plain c (suc (suc (suc (suc (suc (suc zero)))))) h = digit-plain (c.month % 10)
civil-plain c (suc (suc (suc (suc (suc (suc (suc zero))))))) h = refl
civil-plain c (suc (suc (suc (suc (suc (suc (suc (suc zero)))))))) h = digit-plain (c.day / 10)
civil-plain c (suc (suc (suc (suc (suc (suc (suc (suc (suc zero))))))))) h = digit-plain (c.day % 10)
civil-plain c (suc (suc (suc (suc (suc (suc (suc (suc (suc (suc k)))))))))) h = absurd (omega arith)

pub date-plain : (n : ℤ) (k : ℕ) → k < length (date_text n) → ends_token (get_or (date_text n) k 0) ≡ false
unfolding date_text
date-plain n k h = civil-plain (date_of n) k h

pub date-filled : (n : ℤ) → 0 < length (date_text n)
unfolding date_text
date-filled n = omega arith
