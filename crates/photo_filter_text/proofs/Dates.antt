-- Printed filters write dates and ratings as records show them.
use Rattle.std.proofs.Common.{◌≡◌, ℕ, ◌/◌, ◌%◌, ◌<◌, ◌≤◌, ℤ, [], ◌∷◌, ◌++◌, ap, ◌∙◌, inl, inr, append_assoc, arith}
use Rattle.std.specs.Fmt.{decimal}
use Rattle.std.proofs.lemmas.Bool.{cases_lt}
use Rattle.std.proofs.lemmas.Fmt.{decimal_digit, decimal_step}
use Rattle.photo_record.specs.Calendar.{date_of}
use Rattle.photo_record.specs.Limits.{IsDay}
use Rattle.photo_record.specs.Showing.{padded_decimal, day_text}
use Rattle.photo_record.proofs.DateLemmas.{date_of-in, date_ranges}
use Rattle.photo_filter_text.specs.Printed.{digit, two_digits, date_text}

pub one : (n : ℕ) → n < 10 → decimal n ≡ digit n ∷ []
one n small = decimal_digit n small

tens : (n : ℕ) → 10 ≤ n → n < 100 → decimal n ≡ two_digits n
tens n large small = decimal_step n large (omega arith) ∙ ap (λ t. t ++ digit (n % 10) ∷ []) (one (n / 10) (omega arith))

hundreds : (n : ℕ) → 100 ≤ n → n ≤ 9999 → decimal n ≡ decimal (n / 100) ++ two_digits (n % 100)
hundreds n large small =
    let front : n / 10 / 10 ≡ n / 100 = omega arith in
    let next : n / 10 % 10 ≡ n % 100 / 10 = omega arith in
    let last : n % 10 ≡ n % 100 % 10 = omega arith in
    decimal_step n (omega arith) (omega arith) ∙ ap (λ t. t ++ digit (n % 10) ∷ []) (decimal_step (n / 10) (omega arith) (omega arith))
    ∙ append_assoc (decimal (n / 10 / 10)) (digit (n / 10 % 10) ∷ []) (digit (n % 10) ∷ [])
    ∙ (λ i. decimal (front i) ++ digit (next i) ∷ digit (last i) ∷ [])

two : (n : ℕ) → n < 100 → padded_decimal 2 n ≡ two_digits n
two n small = elim (cases_lt n 10) [
  | inl few ↦ let high : n / 10 ≡ 0 = omega arith in let low : n % 10 ≡ n = omega arith in rw (one n few, high, low)
  | inr many ↦ rw (tens n many small)
]

four : (n : ℕ) → n ≤ 9999 → padded_decimal 4 n ≡ two_digits (n / 100) ++ two_digits (n % 100)
four n small = elim (cases_lt n 100) [
  | inl few ↦
      let high : n / 100 ≡ 0 = omega arith in
      let low : n % 100 ≡ n = omega arith in
      elim (cases_lt n 10) [
        | inl fewer ↦ let ten : n / 10 ≡ 0 = omega arith in let rest : n % 10 ≡ n = omega arith in rw (one n fewer, high, low, ten, rest)
        | inr more ↦ rw (tens n more few, high, low)
      ]
  | inr many ↦
      elim (cases_lt (n / 100) 10) [
        | inl fewer ↦
            let ten : n / 100 / 10 ≡ 0 = omega arith in
            let rest : n / 100 % 10 ≡ n / 100 = omega arith in
            rw (hundreds n many small, one (n / 100) fewer, ten, rest)
        | inr more ↦ rw (hundreds n many small, tens (n / 100) more (omega arith))
      ]
]

pub date_shown : (day : ℤ) → IsDay day → day_text day ≡ date_text day
unfolding date_text
date_shown day range =
    let date = date_of day in
    let parts = date_ranges date (date_of-in day range).in_calendar in
    let years = four date.year parts.year in
    let months = two date.month (omega (arith, parts.month)) in
    let days = two date.day (omega (arith, parts.day)) in
    rw (years, months, days)
