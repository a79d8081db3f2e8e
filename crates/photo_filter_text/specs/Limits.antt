-- The limits of a filter: its tokens and its tree's height.
use Rattle.std.specs.Prelude.{ℕ}

-- the most tokens of a filter
abbrev pub max_tokens : ℕ
max_tokens = 256

-- the greatest height of a tree
abbrev pub max_height : ℕ
max_height = 32
