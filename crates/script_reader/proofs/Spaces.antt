-- Spaces at the front of a text, and its first field.
use Rattle.std.proofs.Common.{◌≡◌, ◌∷◌, ℕ, List, [], refl, eqb, Bool, true, false, cond, ap}
use Rattle.std.proofs.lemmas.Bool.{eqb-true}
use Rattle.script_reader.specs.Lines.{without_spaces}

-- a text that no space begins
pub without-none : (text : List ℕ) → ((rest : List ℕ) → text ≡ 32 ∷ rest → ⊥) → without_spaces text ≡ text
without-none [] none = refl
without-none (b ∷ bs) none = by (eqb b 32) refl
  where
    by : (t : Bool) → eqb b 32 ≡ t → cond t (without_spaces bs) (b ∷ bs) ≡ b ∷ bs
    by true e = absurd (none bs (ap (λ x. x ∷ bs) (eqb-true b 32 e)))
    by false e = refl
