-- The first field of a line.
use Rattle.std.proofs.Common.{◌≡◌, ◌<◌, ◌∷◌, ℕ, zero, suc, Bool, true, false, cond, List, [], length, get_or, take, filter, sym, ap, ◌∙◌, arith}
use Rattle.script_reader.specs.Lines.{is_not_empty}
use Rattle.fleet_shell.specs.Kinds.{kind_of_fields, kind_of_word}

-- the first pieces are empty and the next one isn't, so that is the first field
pub first_field : (pieces : List (List ℕ)) (n : ℕ) (piece : List ℕ) → filter is_not_empty (take n pieces) ≡ [] → n < length pieces → piece ≡ get_or pieces n piece → is_not_empty piece ≡ true
    → kind_of_fields (filter is_not_empty pieces) ≡ kind_of_word piece
first_field [] n piece none within item some = absurd (omega arith)
first_field (p ∷ ps) zero piece none within item some = rw (ap is_not_empty (sym item) ∙ some) (ap kind_of_word (sym item))
first_field (p ∷ ps) (suc n) piece none within item some = by (is_not_empty p) none (λ rest. first_field ps n piece rest (omega arith) item some)
  where
    by : (b : Bool) → cond b (p ∷ filter is_not_empty (take n ps)) (filter is_not_empty (take n ps)) ≡ []
        → (filter is_not_empty (take n ps) ≡ [] → kind_of_fields (filter is_not_empty ps) ≡ kind_of_word piece)
        → kind_of_fields (cond b (p ∷ filter is_not_empty ps) (filter is_not_empty ps)) ≡ kind_of_word piece
    by true full more = cc
    by false rest more = more rest
