-- The lines of a text and the fields of a line.
use Rattle.std.specs.Prelude.{ℕ, Bool, not, List, [], ◌∷◌, length, map, filter, ◌==◌, if◌then◌else◌}
use Rattle.std.specs.List.{slice_split, after_first}
use Rattle.std.specs.Str.Lines.{strip_carriage_return}

-- no line follows an LF at the end of a text
abbrev pub without_last_empty : List (List ℕ) → List (List ℕ)
without_last_empty [] = []
without_last_empty (piece ∷ []) = if length piece == 0 then [] else piece ∷ []
without_last_empty (piece ∷ next ∷ more) = piece ∷ without_last_empty (next ∷ more)

-- the pieces of a text between its LFs
abbrev pub pieces_of : List ℕ → List (List ℕ)
pieces_of text = slice_split (λ b. b == 10) text

-- the lines, each without a CR at its end
abbrev pub lines_of : List ℕ → List (List ℕ)
lines_of text = map strip_carriage_return (without_last_empty (pieces_of text))

abbrev pub is_not_empty : List ℕ → Bool
is_not_empty piece = not (length piece == 0)

-- the fields of a line, which runs of spaces separate
abbrev pub fields_of : List ℕ → List (List ℕ)
fields_of line = filter is_not_empty (slice_split (λ b. b == 32) line)

-- a text without its leading spaces
abbrev pub without_spaces : List ℕ → List ℕ
without_spaces [] = []
without_spaces (b ∷ bs) = if b == 32 then without_spaces bs else b ∷ bs

-- a text without its first field
abbrev pub behind_field : List ℕ → List ℕ
behind_field text = after_first (λ b. b == 32) (without_spaces text)

-- the text of a line from its third field on
abbrev pub third_field_on : List ℕ → List ℕ
third_field_on line = without_spaces (behind_field (behind_field line))
