-- Machinery of the proofs, cited by contracts of private functions only: the picture that a line makes.
use Rattle.std.specs.Prelude.{ℕ, if◌then◌else◌, List, [], ◌∷◌, Option, None, codes}
use Rattle.script_reader.specs.Fields.{is_word, picture_of}

abbrev pub second_picture : List (List ℕ) → Option ℕ
second_picture [] = None
second_picture (device ∷ []) = None
second_picture (device ∷ picture ∷ more) = picture_of picture

-- the picture that a line of a script makes, by the line's fields
abbrev pub made_number : List (List ℕ) → Option ℕ
made_number [] = None
made_number (word ∷ arguments) = if is_word word (codes "new") then second_picture arguments else None
