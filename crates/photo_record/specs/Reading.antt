-- What texts denote: ratings, numbers, dates, words and sets of words.
use Rattle.std.specs.Prelude.{◌≡◌, ◌≢◌, ℕ, ◌-◌, ◌<◌, Bool, false, ◌&&◌, ◌==◌, if◌then◌else◌, nat_lt, nat_le, List, [], ◌∷◌, length, take, slice_index_or, slice_index, slice_range, ℤ, Option, Some, None, Result, Ok, Err, encode_utf8_all, codes}
use Rattle.std.specs.List.{list_any, slice_split}
use Rattle.std.specs.Str.{chars, all_ascii_digits, bytes_eq}
use Rattle.std.specs.Str.Parse.{digits_value}
use Rattle.unicode_normalization.specs.Forms.{nfc}
use Rattle.photo_record.specs.Limits.{max_rating, max_word_bytes, max_words}
use Rattle.photo_record.specs.Calendar.{Civil, civil, is_date, day_number}
use Rattle.photo_record.specs.Word.{is_bad_character, has_word, put_word}
use Rattle.photo_record.specs.declared.fault.WordFault.{WordFault}
use Rattle.photo_record.specs.declared.fault.WordFault.TheVariants.{Empty, BadCharacter, TooLong, TooMany, Repeated}

-- the rating that a text writes: one digit, 0 to 5
abbrev pub rating_of_text : List ℕ → Option ℕ
rating_of_text [] = None
rating_of_text (digit ∷ []) = if nat_le 48 digit && nat_le (digit - 48) max_rating then Some (digit - 48) else None
rating_of_text (digit ∷ next ∷ more) = None

-- the text is one or more ASCII digits
abbrev pub is_number : List ℕ → Bool
is_number text = nat_lt 0 (length text) && all_ascii_digits text

-- the value of a string of decimal digits
abbrev pub number : List ℕ → ℕ
number digits = digits_value 10 digits

-- The parts of a date that is written YYYY-MM-DD.
abbrev pub year_digits : List ℕ → List ℕ
year_digits text = take 4 text

abbrev pub month_digits : List ℕ → List ℕ
month_digits text = slice_range text 5 7

abbrev pub day_digits : List ℕ → List ℕ
day_digits text = slice_range text 8 10

abbrev pub has_date_form : List ℕ → Bool
has_date_form text =
    (length text == 10) && ((slice_index text 4 == 45) && ((slice_index text 7 == 45)
    && (is_number (year_digits text) && (is_number (month_digits text) && is_number (day_digits text)))))

abbrev pub written_date : List ℕ → Civil
written_date text = civil (number (year_digits text)) (number (month_digits text)) (number (day_digits text))

-- the day number of the date that a text writes, if it writes one
unfoldable pub day_of_text : List ℕ → Option ℤ
day_of_text text =
    if has_date_form text && is_date (written_date text) then Some (day_number (written_date text)) else None

-- the word that a text denotes, its form C, or the first fault of that form
unfoldable pub word_of_text : List ℕ → Result (List ℕ) WordFault
word_of_text text =
    let form = nfc (chars text) in
    let word = encode_utf8_all form in
    if length form == 0 then Err Empty
    else (if list_any is_bad_character form then Err BadCharacter
    else (if nat_lt max_word_bytes (length word) then Err TooLong
    else Ok word))

infixl 10 ◌>>=◌
abbrev pub ◌>>=◌ : {A B : Type 0} → Result A WordFault → (A → Result B WordFault) → Result B WordFault
(Ok x) >>= f = f x
(Err e) >>= f = Err e

-- a set with one more word, which must be new
abbrev pub with_new_word : List (List ℕ) → List ℕ → Result (List (List ℕ)) WordFault
with_new_word words w = if has_word words w then Err Repeated else Ok (put_word w words)

-- a set with the word of one more piece; a seventeenth piece is refused before it is read
abbrev pub with_piece : List (List ℕ) → List ℕ → Result (List (List ℕ)) WordFault
with_piece words piece =
    if nat_le max_words (length words) then Err TooMany else (word_of_text piece >>= with_new_word words)

-- a set with the words of all pieces, or the first fault from the left
abbrev pub with_pieces : List (List ℕ) → List (List ℕ) → Result (List (List ℕ)) WordFault
with_pieces words [] = Ok words
with_pieces words (piece ∷ pieces) = with_piece words piece >>= λ more. with_pieces more pieces

-- the pieces between the commas
abbrev pub pieces_of : List ℕ → List (List ℕ)
pieces_of text = slice_split (λ b. b == 44) text

abbrev pub is_dash : List ℕ → Bool
is_dash text = bytes_eq text (codes "-")

-- the set of words that a text denotes
unfoldable pub words_of_text : List ℕ → Result (List (List ℕ)) WordFault
words_of_text text = if is_dash text then Ok [] else with_pieces [] (pieces_of text)

-- the reader reaches a piece that isn't empty, with no fault before it, so it may ask for memory
pub record MayWantMemory (text : List ℕ) : Type 0 where
  pub at : ℕ
  pub words : List (List ℕ)
  pub no_dash : is_dash text ≡ false
  pub in_text : at < length (pieces_of text)
  pub before : with_pieces [] (take at (pieces_of text)) ≡ Ok words
  pub room : length words < max_words
  pub piece : slice_index_or (pieces_of text) at [] ≢ []
