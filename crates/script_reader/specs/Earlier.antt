-- The context of a line: the names that the earlier lines declare, the pictures that they make, and how many commands they have.
-- It is defined on the lines themselves, whether or not they have faults.
use Rattle.std.specs.Prelude.{ℕ, Bool, false, not, ◌&&◌, ◌==◌, if◌then◌else◌, List, [], ◌∷◌, codes, count_by, option_to_list}
use Rattle.std.specs.List.{flat_map, list_any}
use Rattle.photo_filter_text.specs.Tree.{Tree}
use Rattle.photo_filter_rules.specs.Filters.{filter_of}
use Rattle.script_reader.specs.Lines.{fields_of, third_field_on}
use Rattle.script_reader.specs.Fields.{is_word, number_of}

-- the first field of a comment
abbrev pub is_comment : List ℕ → Bool
is_comment [] = false
is_comment (c ∷ cs) = c == 35

-- the name that a line of these fields declares, if it declares one
abbrev pub declared_by : List (List ℕ) → List (List ℕ)
declared_by [] = []
declared_by (word ∷ []) = []
declared_by (word ∷ name ∷ more) = if is_word word (codes "device") then name ∷ [] else []

-- the filter that it declares; `text` is the line from its third field on
abbrev pub filter_declared_by : List (List ℕ) → List ℕ → List Tree
filter_declared_by [] text = []
filter_declared_by (word ∷ more) text = if is_word word (codes "device") then option_to_list (filter_of text) else []

-- the picture that it makes, if it makes one
abbrev pub made_by : List (List ℕ) → List ℕ
made_by [] = []
made_by (word ∷ []) = []
made_by (word ∷ device ∷ []) = []
made_by (word ∷ device ∷ picture ∷ more) = if is_word word (codes "new") then number_of picture ∷ [] else []

-- a line that is neither empty nor a comment nor a declaration is a command
abbrev pub is_command : List (List ℕ) → Bool
is_command [] = false
is_command (word ∷ more) = not (is_comment word) && not (is_word word (codes "device"))

abbrev pub names_of : List (List ℕ) → List (List ℕ)
names_of lines = flat_map (λ line. declared_by (fields_of line)) lines

abbrev pub filters_of : List (List ℕ) → List Tree
filters_of lines = flat_map (λ line. filter_declared_by (fields_of line) (third_field_on line)) lines

abbrev pub pictures_of : List (List ℕ) → List ℕ
pictures_of lines = flat_map (λ line. made_by (fields_of line)) lines

abbrev pub commands_of : List (List ℕ) → ℕ
commands_of lines = count_by (λ line. is_command (fields_of line)) lines

pub record Earlier : Type 0 where
  pub names : List (List ℕ)
  -- whether a picture is made
  pub makes : ℕ → Bool
  pub commands : ℕ

abbrev pub earlier : List (List ℕ) → Earlier
earlier lines = record {
  names = names_of lines;
  makes = λ p. list_any (λ q. q == p) (pictures_of lines);
  commands = commands_of lines;
}
