-- The ranges of the values in a record.
use Rattle.std.specs.Prelude.{ℕ, ◌≤◌, ℤ, pos, neg_ℤ, ◌≤ℤ◌}

-- the greatest rating
abbrev pub max_rating : ℕ
max_rating = 5

-- the greatest picture number
abbrev pub max_picture : ℕ
max_picture = 999_999_999

abbrev pub IsPicNo : ℕ → Type 0
IsPicNo n = (1 ≤ n) × (n ≤ max_picture)

-- the day number of 0000-01-01; 1970-01-01 is 0
abbrev pub first_day : ℤ
first_day = neg_ℤ (pos 719_528)

-- the day number of 9999-12-31
abbrev pub last_day : ℤ
last_day = pos 2_932_896

abbrev pub IsDay : ℤ → Type 0
IsDay day = (first_day ≤ℤ day) × (day ≤ℤ last_day)

-- the last year of the calendar; its first is 0
abbrev pub max_year : ℕ
max_year = 9999

-- the most bytes of a word in form C
abbrev pub max_word_bytes : ℕ
max_word_bytes = 64

-- the most words of a set
abbrev pub max_words : ℕ
max_words = 16
