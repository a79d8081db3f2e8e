-- How values are shown. Ratings and picture numbers are shown in decimal, words by their text.
use Rattle.std.specs.Prelude.{ℕ, ◌-◌, ℤ, List, [], ◌∷◌, ◌++◌, length, codes, replicate}
use Rattle.std.specs.Fmt.{decimal}
use Rattle.std.specs.List.{join_with_byte}
use Rattle.photo_record.specs.Calendar.{date_of}
use Rattle.photo_record.specs.declared.record.Record.{Record}
use Rattle.photo_record.specs.declared.record.Record.TheVariants.{Picture, Removed}

-- decimal, padded with zeros to the width
abbrev pub padded_decimal : ℕ → ℕ → List ℕ
padded_decimal width n = replicate (width - length (decimal n)) 48 ++ decimal n

-- the day as YYYY-MM-DD
abbrev pub day_text : ℤ → List ℕ
day_text day =
    let date = date_of day in
    padded_decimal 4 date.year ++ codes "-" ++ padded_decimal 2 date.month ++ codes "-" ++ padded_decimal 2 date.day

-- the words separated by commas, or `-` if there are none
abbrev pub words_text : List (List ℕ) → List ℕ
words_text [] = codes "-"
words_text (word ∷ words) = join_with_byte 44 (word ∷ words)

abbrev pub record_text : Record → List ℕ
record_text (Picture rating day words) =
    codes "rating " ++ decimal rating ++ codes " day " ++ day_text day ++ codes " words " ++ words_text words
record_text Removed = codes "removed"
