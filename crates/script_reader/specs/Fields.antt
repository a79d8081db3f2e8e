-- The values of single fields.
use Rattle.std.specs.Prelude.{ℕ, Bool, false, not, ◌&&◌, ◌||◌, nat_le, nat_lt, ◌==◌, if◌then◌else◌, List, [], ◌∷◌, length, Option, Some, None, position}
use Rattle.std.specs.List.{list_all, list_any, before_first, after_first}
use Rattle.std.specs.Char.{is_ascii_lowercase, is_ascii_digit}
use Rattle.std.specs.Str.{bytes_eq, all_ascii_digits}
use Rattle.std.specs.Str.Parse.{digits_value}
use Rattle.photo_record.specs.Limits.{max_picture}
use Rattle.script_reader.specs.Limits.{max_epoch, max_version, max_name_characters}

abbrev pub is_word : List ℕ → List ℕ → Bool
is_word field word = bytes_eq field word

-- a letter from a to z, or a digit
abbrev pub is_name_character : ℕ → Bool
is_name_character c = is_ascii_lowercase c || is_ascii_digit c

-- a device's name is a letter from a to z, and then such letters and digits
abbrev pub is_name : List ℕ → Bool
is_name [] = false
is_name (c ∷ cs) = is_ascii_lowercase c && (nat_lt (length cs) max_name_characters && list_all is_name_character cs)

-- the place of a name among the declared names
abbrev pub place_of : List (List ℕ) → List ℕ → Option ℕ
place_of names name = position (bytes_eq name) names

abbrev pub is_colon : ℕ → Bool
is_colon c = c == 58

abbrev pub is_dot : ℕ → Bool
is_dot c = c == 46

-- the parts of a text before and after the first such character, if it has one
abbrev pub cut_at : (ℕ → Bool) → List ℕ → Option (List ℕ × List ℕ)
cut_at mark text = if list_any mark text then Some (before_first mark text, after_first mark text) else None

abbrev pub cut_at_colon : List ℕ → Option (List ℕ × List ℕ)
cut_at_colon text = cut_at is_colon text

abbrev pub cut_at_dot : List ℕ → Option (List ℕ × List ℕ)
cut_at_dot text = cut_at is_dot text

-- decimal digits without a leading zero
abbrev pub is_decimal : List ℕ → Bool
is_decimal [] = false
is_decimal (d ∷ ds) = not (d == 48) && all_ascii_digits (d ∷ ds)

-- the number that digits stand for
abbrev pub number_of : List ℕ → ℕ
number_of digits = digits_value 10 digits

abbrev pub is_picture : ℕ → Bool
is_picture n = nat_le 1 n && nat_le n max_picture

abbrev pub picture_of : List ℕ → Option ℕ
picture_of text = if is_decimal text && is_picture (number_of text) then Some (number_of text) else None

abbrev pub is_version_number : ℕ → Bool
is_version_number n = nat_le 1 n && nat_le n max_version

abbrev pub is_epoch : ℕ → Bool
is_epoch n = nat_le 1 n && nat_le n max_epoch

-- the epoch after a dot, which is at least 1
abbrev pub epoch_of : List ℕ → Option ℕ
epoch_of text = if is_decimal text && is_epoch (number_of text) then Some (number_of text) else None

-- the number of a version
abbrev pub version_number_of : List ℕ → Option ℕ
version_number_of text = if is_decimal text && is_version_number (number_of text) then Some (number_of text) else None
