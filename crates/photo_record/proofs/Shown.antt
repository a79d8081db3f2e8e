-- How values are shown: zero-padded numbers and words between commas.
use Rattle.std.proofs.Common.{◌≡◌, ◌-◌, ◌^◌, ℕ, List, [], ◌∷◌, ◌++◌, length, replicate, codes, ap, ◌∙◌, append_assoc, append-nil, arith}
use Rattle.std.specs.Fmt.{decimal, styled_decimal, format_spec, padded_integral, char_count}
use Rattle.photo_record.specs.Calendar.{Civil}
use Rattle.photo_record.specs.Showing.{padded_decimal}

-- the formats `{:04}` and `{:02}`
pub four_wide : (n : ℕ) → styled_decimal (format_spec 32 0 4 4 (2 ^ 64 - 1)) n ≡ padded_decimal 4 n
unfolding padded_integral char_count
four_wide n =
    let zeros : 4 - length (decimal n) - 0 - 0 ≡ 4 - length (decimal n) = omega arith in
    ap (λ k. replicate k 48 ++ (decimal n ++ [])) zeros ∙ ap (λ t. replicate (4 - length (decimal n)) 48 ++ t) (append-nil (decimal n))

pub two_wide : (n : ℕ) → styled_decimal (format_spec 32 0 4 2 (2 ^ 64 - 1)) n ≡ padded_decimal 2 n
unfolding padded_integral char_count
two_wide n =
    let zeros : 2 - length (decimal n) - 0 - 0 ≡ 2 - length (decimal n) = omega arith in
    ap (λ k. replicate k 48 ++ (decimal n ++ [])) zeros ∙ ap (λ t. replicate (2 - length (decimal n)) 48 ++ t) (append-nil (decimal n))

-- three zero-padded numbers with dashes between them are the text of a date
pub date_shown : (date : Civil) (first second third : List ℕ) (year month day : ℕ) → first ≡ styled_decimal (format_spec 32 0 4 4 (2 ^ 64 - 1)) year
    → second ≡ styled_decimal (format_spec 32 0 4 2 (2 ^ 64 - 1)) month → third ≡ styled_decimal (format_spec 32 0 4 2 (2 ^ 64 - 1)) day
    → year ≡ date.year → month ≡ date.month → day ≡ date.day
    → first ++ 45 ∷ (second ++ 45 ∷ third) ≡ padded_decimal 4 date.year ++ codes "-" ++ padded_decimal 2 date.month ++ codes "-" ++ padded_decimal 2 date.day
date_shown date first second third year month day texts next last years months days =
    let one : first ≡ padded_decimal 4 date.year = texts ∙ four_wide year ∙ ap (padded_decimal 4) years in
    let two : second ≡ padded_decimal 2 date.month = next ∙ two_wide month ∙ ap (padded_decimal 2) months in
    let three : third ≡ padded_decimal 2 date.day = last ∙ two_wide day ∙ ap (padded_decimal 2) days in
    let parts : first ++ 45 ∷ (second ++ 45 ∷ third) ≡ padded_decimal 4 date.year ++ 45 ∷ (padded_decimal 2 date.month ++ 45 ∷ padded_decimal 2 date.day) =
    λ i. one i ++ 45 ∷ (two i ++ 45 ∷ three i) in
    parts ∙ simp append_assoc
