-- Words that write numbers.
use Rattle.std.proofs.Common.{◌≡◌, ◌∙◌, ◌<◌, ◌+◌, ◌^◌, ℕ, suc, Bool, true, false, refl, sym, ap, arith, List, [], ◌∷◌, ◌++◌, drop, length, Some, None, Result, Ok, Err, get_or, append_assoc, drop-cons}
use Rattle.std.proofs.lemmas.Bool.{cond-true, cond-false}
use Rattle.std.specs.Prelude.{Option, option_map, option_and_then}
use Rattle.std.specs.Result.{result_unwrap_or}
use Rattle.std.specs.Borrow.{Bor}
use Rattle.std.specs.Str.Parse.{IsNumeral, ParsesUnsigned, digits_value, without_leading_plus}
use Rattle.clap.specs.Words.{Text}
use Rattle.clap.specs.ValueTests.{is_unsigned_in}
use Rattle.clap.specs.declared.builder.value_parser.ValueParser.TheVariants.{Unsigned}
use Rattle.clap.proofs.ValueTestLemmas.{accepts-Accepts, Accepts-accepts}
use Rattle.photofleet_cli.specs.Asked.{number_in, numbers_in, texts}

-- the word is a numeral of at most 32 bits
abbrev pub IsNumber : Text → Type 0
IsNumber word = IsNumeral 10 (without_leading_plus word) × (digits_value 10 (without_leading_plus word) < 2 ^ 32)

pub number_read : (word : Text) (n : ℕ) → IsNumber word → n ≡ digits_value 10 (without_leading_plus word) → number_in word ≡ Some n
number_read word n number is =
    let passes : is_unsigned_in 0 4294967295 word ≡ true = Accepts-accepts false (Unsigned 0 4294967295) word (number.0, omega (arith, number.1), omega arith, omega (arith, number.1)) in
    cond-true _ _ _ passes ∙ ap Some (sym is)

pub refuted : (b : Bool) → (b ≡ true → ⊥) → b ≡ false
refuted false h = refl
refuted true h = absurd (h refl)

pub no_number_read : (word : Text) → (IsNumber word → ⊥) → number_in word ≡ None
no_number_read word other =
    let fails : is_unsigned_in 0 4294967295 word ≡ false = refuted _ (λ passes.
    let number = accepts-Accepts false (Unsigned 0 4294967295) word passes in
    other (number.0, omega (arith, number.3))) in
    cond-false _ _ _ fails

-- the number that `parse` read from the word
pub number_parsed : {E : Type 0} (word : Text) (r : Result ℕ E) (n : ℕ) → ParsesUnsigned 32 10 word r → r ≡ Ok n → number_in word ≡ Some n
number_parsed word (Ok m) n parsed is =
    let same : m ≡ n = ap (λ (r : Result ℕ _). result_unwrap_or r n) is in
    number_read word n parsed.0 (sym same ∙ parsed.1)
number_parsed word (Err e) n parsed is = cc

pub no_number_parsed : {E : Type 0} (word : Text) (r : Result ℕ E) (e : E) → ParsesUnsigned 32 10 word r → r ≡ Err e → number_in word ≡ None
no_number_parsed word (Ok m) e parsed is = cc
no_number_parsed word (Err x) e parsed is = no_number_read word parsed

-- a stand-in where there is no word
abbrev pub no_word : Bor Text
no_word = record { ref_ptr = (0, 0); now = [] }

-- the numbers so far, followed by those of the words from index i on, are the numbers of all words
abbrev pub AreReadTo : List (Bor Text) → ℕ → List ℕ → Type 0
AreReadTo words i done = option_map (λ ns. done ++ ns) (numbers_in (texts (drop i words))) ≡ numbers_in (texts words)

-- the numbers of the words from index i on
numbers_left : (words : List (Bor Text)) (i : ℕ) → i < length words
    → numbers_in (texts (drop i words)) ≡ option_and_then (λ m. option_map (λ ns. m ∷ ns) (numbers_in (texts (drop (suc i) words)))) (number_in (get_or words i no_word).now)
numbers_left words i lt = ap (λ (ws : List (Bor Text)). numbers_in (texts ws)) (drop-cons words i no_word lt)

regrouped : (done : List ℕ) (n : ℕ) (o : Option (List ℕ)) → option_map (λ ns. (done ++ n ∷ []) ++ ns) o ≡ option_map (λ ns. done ++ ns) (option_map (λ ns. n ∷ ns) o)
regrouped done n None = refl
regrouped done n (Some ns) = ap Some (append_assoc done (n ∷ []) ns)

pub one_read : (words : List (Bor Text)) (i : ℕ) (done after : List ℕ) (n : ℕ) → i < length words → number_in (get_or words i no_word).now ≡ Some n
    → after ≡ done ++ n ∷ [] → AreReadTo words i done → AreReadTo words (i + 1) after
one_read words i done after n lt number is so_far =
    let next : i + 1 ≡ suc i = omega arith in
    let rest = numbers_in (texts (drop (suc i) words)) in
    let here : numbers_in (texts (drop i words)) ≡ option_map (λ ns. n ∷ ns) rest =
    numbers_left words i lt ∙ ap (option_and_then (λ m. option_map (λ ns. m ∷ ns) rest)) number in
    rw (next, is) (regrouped done n rest ∙ sym (ap (option_map (λ ns. done ++ ns)) here) ∙ so_far)

pub one_refused : (words : List (Bor Text)) (i : ℕ) (done : List ℕ) → i < length words → number_in (get_or words i no_word).now ≡ None
    → AreReadTo words i done → None ≡ numbers_in (texts words)
one_refused words i done lt number so_far =
    let rest = numbers_in (texts (drop (suc i) words)) in
    let here : numbers_in (texts (drop i words)) ≡ None = numbers_left words i lt ∙ ap (option_and_then (λ m. option_map (λ ns. m ∷ ns) rest)) number in
    sym (ap (option_map (λ ns. done ++ ns)) here) ∙ so_far
