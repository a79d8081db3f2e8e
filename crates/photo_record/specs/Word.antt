-- Words, as the bytes of their text, and sets of words, as lists in the order of bytes.
use Rattle.std.specs.Prelude.{◌≡◌, ◌≢◌, ℕ, ◌≤◌, Bool, true, false, ◌&&◌, ◌||◌, ◌==◌, if◌then◌else◌, nat_le, List, [], ◌∷◌, length}
use Rattle.std.specs.List.{All, list_any}
use Rattle.std.specs.Ordering.{is_lt, nat_cmp}
use Rattle.std.specs.Cmp.Lexicographic.{slice_cmp, pointwise}
use Rattle.std.specs.Str.{chars, bytes_eq}
use Rattle.unicode_normalization.specs.Forms.{nfc}
use Rattle.photo_record.specs.Limits.{max_word_bytes, max_words}

-- the character is a space, a control character, a double quote, a parenthesis or a comma
abbrev pub is_bad_character : ℕ → Bool
is_bad_character c =
    nat_le c 0x20 || ((nat_le 0x7f c && nat_le c 0x9f) || ((c == 34) || ((c == 40) || ((c == 41) || (c == 44)))))

-- the text is a word
pub record IsWord (text : List ℕ) : Type 0 where
  pub in_form_c : nfc (chars text) ≡ chars text
  pub not_empty : text ≢ []
  pub no_bad_character : list_any is_bad_character (chars text) ≡ false
  pub short : length text ≤ max_word_bytes

-- words are ordered by their bytes
abbrev pub word_before : List ℕ → List ℕ → Bool
word_before v w = is_lt (slice_cmp nat_cmp v w)

abbrev pub same_words : List (List ℕ) → List (List ℕ) → Bool
same_words = pointwise bytes_eq

-- each word stands before the next, so no word stands twice
abbrev pub is_rising : List (List ℕ) → Bool
is_rising [] = true
is_rising (v ∷ []) = true
is_rising (v ∷ w ∷ ws) = word_before v w && is_rising (w ∷ ws)

abbrev pub has_word : List (List ℕ) → List ℕ → Bool
has_word words w = list_any (λ v. bytes_eq v w) words

-- the set with one more word
abbrev pub put_word : List ℕ → List (List ℕ) → List (List ℕ)
put_word w [] = w ∷ []
put_word w (v ∷ vs) = if word_before w v then w ∷ v ∷ vs else v ∷ put_word w vs

-- a set of words: at most sixteen words, in rising order
pub record IsWordSet (words : List (List ℕ)) : Type 0 where
  pub rising : is_rising words ≡ true
  pub few : length words ≤ max_words
  pub each : All IsWord words
