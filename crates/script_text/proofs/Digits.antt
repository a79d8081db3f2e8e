-- Numbers written in digits and read back.
use Rattle.std.proofs.Common.{◌≡◌, ℕ, zero, suc, ◌+◌, ◌<◌, ◌≤◌, ◌^◌, Bool, true, false, cond, not, ◌&&◌, eqb, leb, List, [], ◌∷◌, length, get_or, Some, None, refl, ap, ◌∙◌, arith}
use Rattle.std.specs.Char.{is_ascii_digit}
use Rattle.std.specs.Fmt.{decimal}
use Rattle.std.specs.List.{All}
use Rattle.std.specs.Str.{all_ascii_digits}
use Rattle.std.specs.Str.Parse.{digits_value}
use Rattle.std.proofs.lemmas.Bool.{and_parts, and_from, ne_eqb, leb-true, le-leb, cond-true, not_from_false}
use Rattle.std.proofs.lemmas.Fmt.{digits_decimal, digits_value-decimal, decimal_nonempty, first_decimal, decimal_digit}
use Rattle.std.proofs.lemmas.List.Elements.{All-cons, All-nil}
use Rattle.std.proofs.lemmas.Str.Parse.{IsNumeralModel, numerals_by_value, tells_all_ascii_digits}
use Rattle.photo_record.specs.Limits.{IsPicNo, max_rating}
use Rattle.photo_record.specs.Reading.{rating_of_text}
use Rattle.script_reader.specs.Limits.{max_version, max_epoch}
use Rattle.script_reader.specs.Fields.{is_decimal, number_of, is_picture, picture_of, is_version_number, version_number_of, is_epoch, epoch_of}
use Rattle.script_reader.specs.Lines.{is_not_empty}
use Rattle.script_text.proofs.Bytes.{is_from, from-cons, from-weaker}
use Rattle.script_text.proofs.Cuts.{IsField}

own : IsNumeralModel (λ ds. all_ascii_digits ds ≡ true) (digits_value 10)
own = numerals_by_value _ tells_all_ascii_digits

digits-from : (ds : List ℕ) → all_ascii_digits ds ≡ true → is_from 48 ds ≡ true
digits-from [] h = refl
digits-from (d ∷ ds) h =
    let parts = and_parts (is_ascii_digit d) (all_ascii_digits ds) h in
    let range = and_parts (leb 48 d) (leb d 57) parts.0 in
    from-cons 48 d ds (leb-true 48 d range.0) (digits-from ds parts.1)

-- digits have no byte above `9`
digits-none : (c : ℕ) → 57 < c → (ds : List ℕ) → all_ascii_digits ds ≡ true → All (λ b. eqb b c ≡ false) ds
digits-none c lt [] h = All-nil (λ b. eqb b c ≡ false)
digits-none c lt (d ∷ ds) h =
    let parts = and_parts (is_ascii_digit d) (all_ascii_digits ds) h in
    let range = and_parts (leb 48 d) (leb d 57) parts.0 in
    let most : d ≤ 57 = leb-true d 57 range.1 in
    All-cons (λ x. eqb x c ≡ false) d ds (ne_eqb d c (λ e. absurd (omega arith))) (digits-none c lt ds parts.1)

pub decimal-from : (n : ℕ) → n < 2 ^ 64 → is_from 48 (decimal n) ≡ true
decimal-from n small = digits-from (decimal n) (digits_decimal own n small)

pub decimal-none : (c n : ℕ) → 57 < c → n < 2 ^ 64 → All (λ b. eqb b c ≡ false) (decimal n)
decimal-none c n lt small = digits-none c lt (decimal n) (digits_decimal own n small)

not-empty : (ds : List ℕ) → 0 < length ds → is_not_empty ds ≡ true
not-empty ds h = ap not (ne_eqb (length ds) 0 (λ e. absurd (omega arith)))

pub decimal-field : (n : ℕ) → n < 2 ^ 64 → IsField (decimal n)
decimal-field n small = record {
  plain = from-weaker 33 48 (decimal n) (omega arith) (decimal-from n small);
  some = not-empty (decimal n) (decimal_nonempty n small);
}

decimal-form : (ds : List ℕ) → 48 < get_or ds 0 0 → all_ascii_digits ds ≡ true → is_decimal ds ≡ true
decimal-form [] low digits = absurd (omega arith)
decimal-form (d ∷ ds) low digits = and_from (not (eqb d 48)) (all_ascii_digits (d ∷ ds)) (not_from_false (eqb d 48) (ne_eqb d 48 (λ e. absurd (omega arith)))) digits

-- a number in range is read back from its digits
read-back : (fits : ℕ → Bool) (n : ℕ) → 0 < n → n < 2 ^ 64 → fits n ≡ true
    → cond (is_decimal (decimal n) && fits (number_of (decimal n))) (Some (number_of (decimal n))) None ≡ Some n
read-back fits n some small fit =
    let value : number_of (decimal n) ≡ n = digits_value-decimal own n small in
    let form = decimal-form (decimal n) (first_decimal n some small) (digits_decimal own n small) in
    cond-true (is_decimal (decimal n) && fits (number_of (decimal n))) (Some (number_of (decimal n))) None
    (and_from (is_decimal (decimal n)) (fits (number_of (decimal n))) form (ap fits value ∙ fit))
    ∙ ap Some value

pub number-back : (n : ℕ) → IsPicNo n → number_of (decimal n) ≡ n
number-back n h = let u : n ≤ 999_999_999 = h.1 in digits_value-decimal own n (omega arith)

between : (low high n : ℕ) → low ≤ n → n ≤ high → (leb low n && leb n high) ≡ true
between low high n l h = and_from (leb low n) (leb n high) (le-leb low n l) (le-leb n high h)

pub picture-read : (n : ℕ) → IsPicNo n → picture_of (decimal n) ≡ Some n
picture-read n h = let l : 1 ≤ n = h.0 in let u : n ≤ 999_999_999 = h.1 in read-back is_picture n (omega arith) (omega arith) (between 1 999_999_999 n l u)

pub epoch-read : (n : ℕ) → 0 < n → n ≤ max_epoch → epoch_of (decimal n) ≡ Some n
epoch-read n l u = read-back is_epoch n l (omega arith) (between 1 100_000 n (omega arith) u)

pub version_number-read : (n : ℕ) → 0 < n → n ≤ max_version → version_number_of (decimal n) ≡ Some n
version_number-read n l u = read-back is_version_number n l (omega arith) (between 1 100_000 n (omega arith) u)

one-digit : (n : ℕ) → n ≤ max_rating → rating_of_text ((48 + n) ∷ []) ≡ Some n
one-digit zero h = refl
one-digit (suc zero) h = refl
one-digit (suc (suc zero)) h = refl
one-digit (suc (suc (suc zero))) h = refl
one-digit (suc (suc (suc (suc zero)))) h = refl
one-digit (suc (suc (suc (suc (suc zero))))) h = refl
one-digit (suc (suc (suc (suc (suc (suc n)))))) h = absurd (omega arith)

pub rating-read : (n : ℕ) → n ≤ max_rating → rating_of_text (decimal n) ≡ Some n
rating-read n h = ap rating_of_text (decimal_digit n (omega arith)) ∙ one-digit n h
