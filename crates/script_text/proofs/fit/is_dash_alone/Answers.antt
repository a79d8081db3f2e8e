use Rattle.std.proofs.Common.{◌≡◌, ℕ, List, [], ◌∷◌, length, slice_get, Some, codes, sym, ap, ◌∙◌, arith}
use Rattle.std.proofs.lemmas.Slice.Eq.{bytes_eq-Decides}
use Rattle.script_text.proofs.fit.is_dash_alone.Goals as goal

alone : (words : List (List ℕ)) (w : List ℕ) → length words ≡ 1 → slice_get words 0 ≡ Some w → words ≡ w ∷ []
alone [] w one at = absurd (omega arith)
alone (v ∷ []) w one at = let same : v ≡ w = cc in ap (λ x. x ∷ []) same
alone (v ∷ u ∷ us) w one at = absurd (omega arith)

first : (words : List (List ℕ)) (w v : List ℕ) → slice_get words 0 ≡ Some w → words ≡ v ∷ [] → w ≡ v
first words w v at is = let same : Some v ≡ Some w = ap (λ ws. slice_get ws 0) (sym is) ∙ at in cc

pub returns-then-len-eq1 : goal.returns-then-len-eq1
returns-then-len-eq1 c =
    let words = c.args.words.now in
    let w = c.text.result.now in
    let at : slice_get words 0 ≡ Some w = c.get.ensures ∙ ap Some (sym c.text.ensures.text) in
    let one : length words ≡ 1 = omega arith in
    let is = bytes_eq-Decides w (codes "-") in
    (λ t. alone words w one at ∙ ap (λ x. x ∷ []) (is.0 (sym c.eq.ensures ∙ t)), λ e. c.eq.ensures ∙ is.1 (first words w (codes "-") at e))
