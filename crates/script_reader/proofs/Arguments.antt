-- The fields of a slice that a pattern takes apart.
use Rattle.std.proofs.Common.{◌≡◌, ◌∷◌, ℕ, List, [], length, get_or, refl, ap, suc, arith, Bor}
use Rattle.script_reader.specs.Steps.{texts}

abbrev pub field : List (Bor (List ℕ)) → ℕ → List ℕ
field xs i = (get_or xs i (record { ref_ptr = (0, 0); now = [] })).now

pub length-texts : (fields : List (Bor (List ℕ))) → length (texts fields) ≡ length fields
length-texts [] = refl
length-texts (f ∷ fs) = ap suc (length-texts fs)

pub texts-one : (xs : List (Bor (List ℕ))) → length xs ≡ 1 → texts xs ≡ field xs 0 ∷ []
texts-one [] h = absurd (omega arith)
texts-one (a ∷ []) h = refl
texts-one (a ∷ b ∷ xs) h = absurd (omega arith)

pub texts-five : (xs : List (Bor (List ℕ))) → length xs ≡ 5 → texts xs ≡ field xs 0 ∷ field xs 1 ∷ field xs 2 ∷ field xs 3 ∷ field xs 4 ∷ []
texts-five [] h = absurd (omega arith)
texts-five (a ∷ []) h = absurd (omega arith)
texts-five (a ∷ b ∷ []) h = absurd (omega arith)
texts-five (a ∷ b ∷ c ∷ []) h = absurd (omega arith)
texts-five (a ∷ b ∷ c ∷ d ∷ []) h = absurd (omega arith)
texts-five (a ∷ b ∷ c ∷ d ∷ e ∷ []) h = refl
texts-five (a ∷ b ∷ c ∷ d ∷ e ∷ f ∷ xs) h = absurd (omega arith)

pub texts-two : (xs : List (Bor (List ℕ))) → length xs ≡ 2 → texts xs ≡ field xs 0 ∷ field xs 1 ∷ []
texts-two [] h = absurd (omega arith)
texts-two (a ∷ []) h = absurd (omega arith)
texts-two (a ∷ b ∷ []) h = refl
texts-two (a ∷ b ∷ c ∷ xs) h = absurd (omega arith)

pub texts-three : (xs : List (Bor (List ℕ))) → length xs ≡ 3 → texts xs ≡ field xs 0 ∷ field xs 1 ∷ field xs 2 ∷ []
texts-three [] h = absurd (omega arith)
texts-three (a ∷ []) h = absurd (omega arith)
texts-three (a ∷ b ∷ []) h = absurd (omega arith)
texts-three (a ∷ b ∷ c ∷ []) h = refl
texts-three (a ∷ b ∷ c ∷ d ∷ xs) h = absurd (omega arith)
