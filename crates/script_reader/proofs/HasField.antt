-- A line with a piece that isn't empty has a field.
use Rattle.std.proofs.Common.{◌≡◌, ◌≢◌, ◌<◌, ◌∷◌, ℕ, zero, suc, Bool, true, false, cond, List, [], length, get_or, filter, sym, ap, ◌∙◌, arith}
use Rattle.std.specs.Prelude.{Result, Ok, Err, OnErr}
use Rattle.script_reader.specs.Lines.{is_not_empty}

pub always : {A E : Type 0} (r : Result A E) (P : Type 0) → P → OnErr r P
always (Ok x) P p = tt
always (Err e) P p = p

pub field-in : (pieces : List (List ℕ)) (k : ℕ) (piece : List ℕ) → k < length pieces → piece ≡ get_or pieces k piece → is_not_empty piece ≡ true → filter is_not_empty pieces ≢ []
field-in [] k piece within item some = absurd (omega arith)
field-in (p ∷ ps) zero piece within item some = rw (ap is_not_empty (sym item) ∙ some) (λ e. cc)
field-in (p ∷ ps) (suc k) piece within item some = by (is_not_empty p) (field-in ps k piece (omega arith) item some)
  where
    by : (b : Bool) → filter is_not_empty ps ≢ [] → cond b (p ∷ filter is_not_empty ps) (filter is_not_empty ps) ≢ []
    by true more = λ e. cc
    by false more = more
