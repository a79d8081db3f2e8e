-- The limits of a script.
use Rattle.std.specs.Prelude.{ℕ}

-- the most bytes of a script
abbrev pub max_text_bytes : ℕ
max_text_bytes = 8_388_608

-- the most bytes of a line
abbrev pub max_line_bytes : ℕ
max_line_bytes = 1024

-- the greatest number of a version
abbrev pub max_version : ℕ
max_version = 100_000

-- the greatest epoch of an author
abbrev pub max_epoch : ℕ
max_epoch = 100_000

-- the most characters of a device's name
abbrev pub max_name_characters : ℕ
max_name_characters = 16
