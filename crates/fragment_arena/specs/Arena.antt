-- An arena as its users see it.
use Rattle.std.specs.Prelude.{ℕ, ◌+◌, ◌-◌, List, [], ◌∷◌, length, take, drop, refl}
use Rattle.std.specs.Coded.{Coded, code_by, coded×, coded_ℕ, coded_list}

-- an arena: its rows, and the words and rows that can still be placed in reserved capacity
pub record Arena : Type 0 where
  pub rows : List (List ℕ)
  pub reserved_words : ℕ
  pub reserved_rows : ℕ

abbrev pub arena : List (List ℕ) → ℕ → ℕ → Arena
arena rows words slots = record { rows = rows; reserved_words = words; reserved_rows = slots }

abbrev pub arena_code : Coded Arena
arena_code =
    code_by (List (List ℕ) × (ℕ × ℕ)) (coded× (coded_list (coded_list coded_ℕ)) (coded× coded_ℕ coded_ℕ))
    (λ a. (a.rows, (a.reserved_words, a.reserved_rows))) (λ p. record { rows = p.0; reserved_words = p.1.0; reserved_rows = p.1.1 }) (λ _. refl)

-- the rows from one place up to another, which is left out
abbrev pub run : List (List ℕ) → ℕ → ℕ → List (List ℕ)
run rows from to = take (to - from) (drop from rows)

-- the number of words in all rows together
abbrev pub words_in : List (List ℕ) → ℕ
words_in [] = 0
words_in (row ∷ rows) = length row + words_in rows
