-- Machinery of the proofs: where the code cuts a text. `Tokens` defines the tokens of the language.
use Rattle.std.specs.Prelude.{ℕ, Bool, true, ◌||◌, not, List, [], ◌∷◌}
use Rattle.photo_filter_text.specs.Tokens.{is_space, is_bracket_byte}

-- a token ends before this byte
abbrev pub ends_token : ℕ → Bool
ends_token b = is_space b || is_bracket_byte b

-- the text doesn't begin with a space
abbrev pub starts_token : List ℕ → Bool
starts_token [] = true
starts_token (b ∷ bs) = not (is_space b)
