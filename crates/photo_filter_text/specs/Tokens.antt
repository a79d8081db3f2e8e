-- The tokens of a text: it is cut at spaces, and each bracket is a token.
use Rattle.std.specs.Prelude.{ℕ, Bool, true, false, ◌||◌, ◌==◌, if◌then◌else◌, List, [], ◌∷◌, filter}
use Rattle.std.specs.List.{slice_split, flat_map}

-- a token, as its bytes
abbrev pub Token : Type 0
Token = List ℕ

abbrev pub is_space : ℕ → Bool
is_space b = b == 32

abbrev pub is_bracket_byte : ℕ → Bool
is_bracket_byte b = (b == 40) || (b == 41)

-- a bracket with a space on either side; any other byte as it is
abbrev pub with_room : ℕ → List ℕ
with_room b = if is_bracket_byte b then 32 ∷ b ∷ 32 ∷ [] else b ∷ []

abbrev pub is_filled : Token → Bool
is_filled [] = false
is_filled (b ∷ bs) = true

-- the tokens: the pieces between spaces that aren't empty
abbrev pub tokens_of : List ℕ → List Token
tokens_of text = filter is_filled (slice_split is_space (flat_map with_room text))
