-- Which day a text denotes, step by step.
use Rattle.std.proofs.Common.{◌≡◌, ◌≢◌, ℕ, zero, suc, ◌+◌, ◌*◌, ◌-◌, ◌<◌, ◌≤◌, ◌^◌, Bool, true, false, ◌&&◌, if◌then◌else◌, ◌==◌, ◌⊎◌, inl, inr, List, [], ◌∷◌, ◌++◌, length, get_or, take, drop, Some, None, Result, Ok, Err, w8, w16, w32, to_z, of_z, ℤ, pos, neg_ℤ, ◌≤ℤ◌, refl, sym, ap, ◌∙◌, subst, arith}
use Rattle.std.proofs.lemmas.Bool.{and_parts, and_from, and_left, and_right, le-ltb, eqb-true, eqb-false, cond-true, cond-false, leb-true, le-leb, lt-ltb, eq-eqb, ne_eqb, false_from_ne_true}
use Rattle.std.proofs.lemmas.Int.{ints, to_z_pos, to_z-of_z}
use Rattle.std.proofs.lemmas.List.{take_more, length-take}
use Rattle.std.proofs.lemmas.Str.{digit_value_digit}
use Rattle.std.proofs.lemmas.Str.Parse.{IsNumeralModel, numerals_by_value, tells_all_ascii_digits, digits_value_short, digit_at}
use Rattle.std.specs.Char.{digit_value, is_ascii_digit}
use Rattle.std.specs.Int.{IsInRange}
use Rattle.std.specs.List.{list_all}
use Rattle.std.specs.Result.{IsOk, IfOk, result_ok}
use Rattle.std.specs.Str.{all_ascii_digits}
use Rattle.std.specs.Str.Parse.{digits_value, digits_value_after}
use Rattle.jiff_core.specs.Calendar.{IsDate, IsEpochDay, days_in_month, days_from_civil, day_count}
use Rattle.jiff_core.specs.Date.{epoch_day, IsYmd}
use Rattle.jiff_core.specs.declared.civil.date.Date.{Date}
use Rattle.jiff_core.proofs.CalendarLemmas.{days_from_civil-day_count, day_count-day_of_year, day_count-later_year}
use Rattle.jiff_core.proofs.MarchLemmas.{day_count-early}
use Rattle.jiff_core.proofs.SignedLemmas.{signed_arith}
use Rattle.photo_record.specs.Limits.{IsDay}
use Rattle.photo_record.specs.Calendar.{civil, is_date, day_number}
use Rattle.photo_record.specs.Reading.{is_number, number, year_digits, month_digits, day_digits, has_date_form, written_date, day_of_text}

-- ---- digits

all_digits_is : (text : List ℕ) → list_all is_ascii_digit text ≡ all_ascii_digits text
all_digits_is [] = refl
all_digits_is (c ∷ cs) = ap (λ b. is_ascii_digit c && b) (all_digits_is cs)

numerals : IsNumeralModel (λ ds. all_ascii_digits ds ≡ true) (digits_value 10)
numerals = numerals_by_value _ tells_all_ascii_digits

after_push : (n : ℕ) (ds : List ℕ) (c : ℕ) → digits_value_after 10 n (ds ++ (c ∷ [])) ≡ digits_value_after 10 n ds * 10 + digit_value c
after_push n [] c = refl
after_push n (d ∷ ds) c = after_push (n * 10 + digit_value d) ds c

all_digits-take : (text : List ℕ) (i : ℕ) → all_ascii_digits text ≡ true → all_ascii_digits (take i text) ≡ true
all_digits-take text zero h = refl
all_digits-take [] (suc i) h = refl
all_digits-take (c ∷ cs) (suc i) h =
    let parts = and_parts _ _ h in and_from _ _ parts.0 (all_digits-take cs i parts.1)

pub digit_range : (text : List ℕ) (i : ℕ) → all_ascii_digits text ≡ true → i < length text → IsInRange 48 57 (get_or text i 0)
digit_range text i all lt = digit_at text i (numerals.to text all) lt

pub value_more : (text : List ℕ) (i : ℕ) → all_ascii_digits text ≡ true → i < length text → 10 * digits_value 10 (take i text) + (get_or text i 0 - 48) ≡ digits_value 10 (take (i + 1) text)
value_more text i all lt =
    let range = digit_range text i all lt in
    let e = ap (digits_value 10) (take_more text i 0 lt) ∙ after_push 0 (take i text) (get_or text i 0) in
    omega (arith, digit_value_digit (get_or text i 0) range, e)

pub value_short : (text : List ℕ) (i : ℕ) → all_ascii_digits text ≡ true → i < length text → length text ≤ 4 → digits_value 10 (take i text) < 1000
value_short text i all lt four = digits_value_short numerals (take i text) 3 (all_digits-take text i all) (omega (arith, length-take i text))

pub number_short : (text : List ℕ) (k : ℕ) → is_number text ≡ true → length text ≤ k → number text < 10 ^ k
number_short text k is le = digits_value_short numerals text k (and_parts _ _ is).1 le

pub no_number : (text : List ℕ) → (length text == 0) ≡ true ⊎ (list_all is_ascii_digit text ≡ false) → is_number text ≡ false
no_number text (inl empty) = and_left _ _ (le-ltb 0 (length text) (omega (arith, eqb-true (length text) 0 empty)))
no_number text (inr other) = and_right _ _ (sym (all_digits_is text) ∙ other)

pub a_number : (text : List ℕ) → (length text == 0) ≡ false → list_all is_ascii_digit text ≡ true → (is_number text ≡ true) × (all_ascii_digits text ≡ true)
a_number text some all =
    let digits = sym (all_digits_is text) ∙ all in
    (and_from _ _ (lt-ltb 0 (length text) (omega (arith, eqb-false (length text) 0 some))) digits, digits)

-- ---- texts with and without the form of a date

pub number_is : (text : List ℕ) (n : ℕ) → Some n ≡ (if is_number text then Some (number text) else None) → (is_number text ≡ true) × (n ≡ number text)
number_is text n e = by (is_number text) e
  where
    by : (b : Bool) → Some n ≡ (if b then Some (number text) else None) → (b ≡ true) × (n ≡ number text)
    by true e = (refl, cc)
    by false e = cc

pub none_is : (text : List ℕ) → None ≡ (if is_number text then Some (number text) else None) → is_number text ≡ false
none_is text e = by (is_number text) e
  where
    by : (b : Bool) → None ≡ (if b then Some (number text) else None) → b ≡ false
    by true e = cc
    by false e = refl

no_day : (text : List ℕ) → has_date_form text && is_date (written_date text) ≡ false → None ≡ day_of_text text
unfolding day_of_text
no_day text none = sym (cond-false _ _ _ none)

other_form : (text : List ℕ) → has_date_form text ≡ false → None ≡ day_of_text text
other_form text other = no_day text (and_left _ _ other)

pub other_length : (text : List ℕ) → length text ≢ 10 → None ≡ day_of_text text
other_length text ne = other_form text (and_left _ _ (ne_eqb _ _ ne))

-- a text that breaks the form at one of its places
abbrev after_year : List ℕ → Bool
after_year text = is_number (month_digits text) && is_number (day_digits text)

abbrev after_seventh : List ℕ → Bool
after_seventh text = is_number (year_digits text) && after_year text

abbrev after_fourth : List ℕ → Bool
after_fourth text = (get_or text 7 0 == 45) && after_seventh text

abbrev after_length : List ℕ → Bool
after_length text = (get_or text 4 0 == 45) && after_fourth text

from_length : (text : List ℕ) → after_length text ≡ false → None ≡ day_of_text text
from_length text other = other_form text (and_right (length text == 10) (after_length text) other)

from_fourth : (text : List ℕ) → after_fourth text ≡ false → None ≡ day_of_text text
from_fourth text other = from_length text (and_right (get_or text 4 0 == 45) (after_fourth text) other)

from_seventh : (text : List ℕ) → after_seventh text ≡ false → None ≡ day_of_text text
from_seventh text other = from_fourth text (and_right (get_or text 7 0 == 45) (after_seventh text) other)

pub other_byte : (text : List ℕ) → (get_or text 4 0 ≢ 45) ⊎ (get_or text 7 0 ≢ 45) → None ≡ day_of_text text
other_byte text (inl ne) = from_length text (and_left _ _ (ne_eqb _ _ ne))
other_byte text (inr ne) = from_fourth text (and_left _ _ (ne_eqb _ _ ne))

pub other_year : (text : List ℕ) → is_number (year_digits text) ≡ false → None ≡ day_of_text text
other_year text none = from_seventh text (and_left (is_number (year_digits text)) (after_year text) none)

pub other_month : (text : List ℕ) → is_number (month_digits text) ≡ false → None ≡ day_of_text text
other_month text none =
    from_seventh text (and_right (is_number (year_digits text)) (after_year text) (and_left (is_number (month_digits text)) (is_number (day_digits text)) none))

pub other_day : (text : List ℕ) → is_number (day_digits text) ≡ false → None ≡ day_of_text text
other_day text none =
    from_seventh text (and_right (is_number (year_digits text)) (after_year text) (and_right (is_number (month_digits text)) (is_number (day_digits text)) none))

-- the text writes this year, month and day
pub record IsWritten (text : List ℕ) (year month day : ℕ) : Type 0 where
  pub ten : length text ≡ 10
  pub fourth : get_or text 4 0 ≡ 45
  pub seventh : get_or text 7 0 ≡ 45
  pub years : (is_number (year_digits text) ≡ true) × (year ≡ number (year_digits text))
  pub months : (is_number (month_digits text) ≡ true) × (month ≡ number (month_digits text))
  pub days : (is_number (day_digits text) ≡ true) × (day ≡ number (day_digits text))

written_form : (text : List ℕ) (year month day : ℕ) → IsWritten text year month day → has_date_form text ≡ true
written_form text year month day h =
    and_from _ _ (eq-eqb _ _ h.ten) (and_from _ _ (eq-eqb _ _ h.fourth) (and_from _ _ (eq-eqb _ _ h.seventh)
    (and_from _ _ h.years.0 (and_from _ _ h.months.0 h.days.0))))

written_is : (text : List ℕ) (year month day : ℕ) → IsWritten text year month day → written_date text ≡ civil year month day
written_is text year month day h = λ i. civil (sym h.years.1 i) (sym h.months.1 i) (sym h.days.1 i)

date_from : (year month day : ℕ) → IsDate (pos year) (pos month) (pos day) → is_date (civil year month day) ≡ true
date_from year month day h =
    and_from _ _ (le-leb year 9999 (omega (arith, ints, h.0)))
    (and_from _ _ (and_from _ _ (le-leb 1 month (omega (arith, ints, h.1))) (le-leb month 12 (omega (arith, ints, h.1))))
    (and_from _ _ (le-leb 1 day (omega (arith, ints, h.2))) (le-leb day (days_in_month (pos year) month) (omega (arith, ints, h.2)))))

pub date_to : (year month day : ℕ) → is_date (civil year month day) ≡ true → IsDate (pos year) (pos month) (pos day)
date_to year month day h =
    let a = and_parts _ _ h in
    let b = and_parts _ _ a.1 in
    let m = and_parts _ _ b.0 in
    let d = and_parts _ _ b.1 in
    let year_in = leb-true year 9999 a.0 in
    let month_low = leb-true 1 month m.0 in
    let month_high = leb-true month 12 m.1 in
    let day_low = leb-true 1 day d.0 in
    let day_high = leb-true day (days_in_month (pos year) month) d.1 in
    ((omega (arith, ints), omega (arith, ints)), (omega (arith, ints), omega (arith, ints)), (omega (arith, ints), omega (arith, ints)))

-- ---- the first day

pub day_count-zero : day_count (pos 0) 1 1 ≡ 3_652_425
day_count-zero = day_count-early (pos 0) 9999 1 1 refl (omega arith) (omega arith) (omega arith)

pub day_count-from_zero : (year month day : ℕ) → 1 ≤ day → 3_652_425 ≤ day_count (pos year) month day
day_count-from_zero zero month day first = omega (arith, day_count-zero, day_count-day_of_year (pos 0) month day first)
day_count-from_zero (suc n) month day first =
    omega (arith, day_count-zero, day_count-day_of_year (pos (suc n)) month day first, day_count-later_year (pos 0) (pos (suc n)) (omega (arith, signed_arith)) (omega (arith, signed_arith)))

pub days_from_zero : (year month day : ℕ) → 1 ≤ day → neg_ℤ (pos 719_528) ≤ℤ days_from_civil (pos year) month day
days_from_zero year month day first =
    omega (arith, signed_arith, days_from_civil-day_count (pos year) month day, day_count-from_zero year month day first)

-- ---- dates of the library

pub month_short : (text : List ℕ) (month : ℕ) → Some month ≡ (if is_number (month_digits text) then Some (number (month_digits text)) else None) → month < 100
month_short text month e =
    let h = number_is (month_digits text) month e in
    omega (arith, h.1, number_short (month_digits text) 2 h.0 (omega (arith, length-take 2 (drop 5 text))))

pub day_short : (text : List ℕ) (day : ℕ) → Some day ≡ (if is_number (day_digits text) then Some (number (day_digits text)) else None) → day < 100
day_short text day e =
    let h = number_is (day_digits text) day e in
    omega (arith, h.1, number_short (day_digits text) 2 h.0 (omega (arith, length-take 2 (drop 8 text))))

cast_year : (text : List ℕ) (year month day : ℕ) → IsWritten text year month day → to_z w16 year ≡ pos year
cast_year text year month day h =
    to_z_pos w16 year (omega (arith, h.years.1, number_short (year_digits text) 4 h.years.0 (omega (arith, length-take 4 text))))

cast_month : (text : List ℕ) (year month day : ℕ) → IsWritten text year month day → to_z w8 month ≡ pos month
cast_month text year month day h =
    to_z_pos w8 month (omega (arith, h.months.1, number_short (month_digits text) 2 h.months.0 (omega (arith, length-take 2 (drop 5 text)))))

cast_day : (text : List ℕ) (year month day : ℕ) → IsWritten text year month day → to_z w8 day ≡ pos day
cast_day text year month day h =
    to_z_pos w8 day (omega (arith, h.days.1, number_short (day_digits text) 2 h.days.0 (omega (arith, length-take 2 (drop 8 text)))))

pub no_date : (text : List ℕ) (year month day : ℕ) → IsWritten text year month day → ¬ (IsDate (to_z w16 year) (to_z w8 month) (to_z w8 day)) → None ≡ day_of_text text
no_date text year month day h none =
    let year_is = cast_year text year month day h in
    let month_is = cast_month text year month day h in
    let day_is = cast_day text year month day h in
    no_day text (and_right _ _ (ap is_date (written_is text year month day h)
    ∙ false_from_ne_true _ (λ is. none (subst (λ d. d) (λ i. IsDate (sym year_is i) (sym month_is i) (sym day_is i)) (date_to year month day is)))))

pub a_date : (text : List ℕ) (year month day : ℕ) → IsWritten text year month day → IsDate (pos year) (pos month) (pos day) → day_of_text text ≡ Some (days_from_civil (pos year) month day)
unfolding day_of_text
a_date text year month day h is =
    cond-true _ _ _ (and_from _ _ (written_form text year month day h) (ap is_date (written_is text year month day h) ∙ date_from year month day is))
    ∙ ap (λ d. Some (day_number d)) (written_is text year month day h)

-- the library has the date, and this is its day number
pub record IsRead (text : List ℕ) (number : ℤ) : Type 0 where
  pub day : day_of_text text ≡ Some number
  pub low : neg_ℤ (pos 719_528) ≤ℤ number

pub read_date : (text : List ℕ) (year month day : ℕ) (date : Date) → IsWritten text year month day → IsDate (to_z w16 year) (to_z w8 month) (to_z w8 day) → IsYmd (to_z w16 year) (to_z w8 month) (to_z w8 day) date → IsRead text (epoch_day date)
read_date text year month day date h is parts =
    let year_is = cast_year text year month day h in
    let month_is = cast_month text year month day h in
    let day_is = cast_day text year month day h in
    let plain = subst (λ d. d) (λ i. IsDate (year_is i) (month_is i) (day_is i)) is in
    let y : date.year ≡ pos year = parts.0 ∙ year_is in
    let m : date.month ≡ month = pos_same (parts.1 ∙ month_is) in
    let d : date.day ≡ day = pos_same (parts.2 ∙ day_is) in
    let same : days_from_civil (pos year) month day ≡ epoch_day date = λ i. days_from_civil (sym y i) (sym m i) (sym d i) in
    record {
      day = a_date text year month day h plain ∙ ap (λ n. Some n) same;
      low = subst (λ n. neg_ℤ (pos 719_528) ≤ℤ n) same (days_from_zero year month day (omega (arith, signed_arith, plain.2.0)));
    }
  where
    pos_same : {a b : ℕ} → pos a ≡ pos b → a ≡ b
    pos_same e = cc

pub ok_value : {T E : Type 0} (r : Result T E) (P : T → Type 0) (x : T) → Some x ≡ result_ok r → IfOk r P → IsOk r × P x
ok_value (Ok y) P x e h = (refl, subst P (same e) h)
  where
    same : {A : Type 0} {x y : A} → Some x ≡ Some y → y ≡ x
    same e = cc
ok_value (Err y) P x e h = cc

pub stored : (day : ℤ) → IsEpochDay day → to_z w32 (of_z w32 day) ≡ day
stored day h = to_z-of_z w32 day (omega (arith, ints))

pub stored_day : (text : List ℕ) (day : ℤ) (number : ℤ) → IsEpochDay day → day ≡ number → IsRead text number → (day_of_text text ≡ Some (to_z w32 (of_z w32 day))) × IsDay (to_z w32 (of_z w32 day))
stored_day text day number range same read =
    let e = stored day range in
    (read.day ∙ ap (λ n. Some n) (sym (e ∙ same)), subst IsDay (sym e) (subst (λ n. neg_ℤ (pos 719_528) ≤ℤ n) (sym same) read.low, range.1))
