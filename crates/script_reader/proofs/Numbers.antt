-- What is read of digits.
use Rattle.std.proofs.Common.{◌≡◌, ◌<◌, ◌≤◌, ◌^◌, ℕ, true, cond, not, eqb, ◌&&◌, List, [], ◌∷◌, length, get_or, Option, Some, None, Result, Ok, Err, sym, ap, ◌∙◌, arith}
use Rattle.std.specs.Option.{SomeIff}
use Rattle.std.specs.Result.{OkIff, result_ok}
use Rattle.std.specs.Str.{all_ascii_digits}
use Rattle.std.specs.Str.Parse.{ParsesUnsigned, digits_value}
use Rattle.std.proofs.lemmas.Str.Parse.{IsNumeralModel, numerals_by_value, tells_all_ascii_digits, parse_plain}
use Rattle.std.proofs.lemmas.Bool.{and_parts, leb-true, le-leb, ne_eqb, and_from, not_from_false, cond-true, cond-false, false_from_ne_true}
use Rattle.photo_record.specs.Limits.{IsPicNo}
use Rattle.script_reader.specs.Fields.{is_decimal, is_picture, number_of, picture_of}

own : IsNumeralModel (λ ds. all_ascii_digits ds ≡ true) (digits_value 10)
own = numerals_by_value _ tells_all_ascii_digits

-- digits without a leading zero whose number has 32 bits
abbrev pub IsNumber : List ℕ → Type 0
IsNumber bs = (is_decimal bs ≡ true) × (number_of bs < 2 ^ 32)

abbrev IsRead : {E : Type 0} → List ℕ → Result ℕ E → Type 0
IsRead bs p = OkIff p ((all_ascii_digits bs ≡ true) × (0 < length bs) × (digits_value 10 bs < 2 ^ 32)) (digits_value 10 bs)

number-parts : (bs : List ℕ) → IsNumber bs → (all_ascii_digits bs ≡ true) × (0 < length bs) × (digits_value 10 bs < 2 ^ 32)
number-parts [] h = cc
number-parts (d ∷ ds) h = let form = and_parts (not (eqb d 48)) (all_ascii_digits (d ∷ ds)) h.0 in (form.1, omega arith, h.1)

decimal-first : (bs : List ℕ) → 49 ≤ get_or bs 0 0 → all_ascii_digits bs ≡ true → is_decimal bs ≡ true
decimal-first [] low digits = absurd (omega arith)
decimal-first (d ∷ ds) low digits = and_from _ _ (not_from_false _ (ne_eqb d 48 (omega arith))) digits

-- what is read of a text that begins with no sign and no zero
pub number-is : {E : Type 0} (bs : List ℕ) (p : Result ℕ E) (r : Option ℕ) → ParsesUnsigned 32 10 bs p → 49 ≤ get_or bs 0 0 → r ≡ result_ok p → SomeIff r (IsNumber bs) (number_of bs)
number-is {E} bs (Ok m) None h low was = cc
number-is {E} bs (Err e) (Some n) h low was = cc
number-is {E} bs (Err e) None h low was =
    let first : get_or bs 0 0 ≡ 43 → ⊥ = omega arith in
    let read : IsRead {E = E} bs (Err e) = parse_plain own 32 bs (Err e) h first in
    λ is. read (number-parts bs is)
number-is {E} bs (Ok m) (Some n) h low was =
    let first : get_or bs 0 0 ≡ 43 → ⊥ = omega arith in
    let read : IsRead {E = E} bs (Ok m) = parse_plain own {E = E} 32 bs (Ok m) h first in
    let same : n ≡ m = cc in
    ((decimal-first bs low read.0.0, read.0.2), same ∙ read.1)

-- a number is a picture number just where it is in the range of one
picture-cases : (n : ℕ) (r : Option ℕ) → SomeIff r (IsPicNo n) n → r ≡ cond (is_picture n) (Some n) None
picture-cases n None out = sym (cond-false _ _ _ (false_from_ne_true _ (λ t. let both = and_parts _ _ t in out (leb-true _ _ both.0, leb-true _ _ both.1))))
picture-cases n (Some m) is = ap Some is.1 ∙ sym (cond-true _ _ _ (and_from _ _ (le-leb _ _ is.0.0) (le-leb _ _ is.0.1)))

pub picture-is : (bs : List ℕ) (n : ℕ) (r : Option ℕ) → is_decimal bs ≡ true → n ≡ number_of bs → SomeIff r (IsPicNo n) n → r ≡ picture_of bs
picture-is bs n r form is new =
    picture-cases n r new ∙ ap (λ k. cond (is_picture k) (Some k) None) is ∙ ap (λ b. cond (b && is_picture (number_of bs)) (Some (number_of bs)) None) (sym form)
