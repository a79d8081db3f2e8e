-- A text by the LF in front of one of its lines.
use Rattle.std.proofs.Common.{◌≡◌, ◌<◌, ◌≤◌, ◌-◌, ◌∷◌, ◌++◌, ℕ, suc, List, length, take, drop, sym, ap, ◌∙◌, arith, drop-cons}
use Rattle.std.specs.Prelude.{slice_index}
use Rattle.std.proofs.lemmas.List.{take-append-drop}

pub at_break : (text : List ℕ) (start : ℕ) → 0 < start → start ≤ length text → slice_index text (start - 1) ≡ 10 → text ≡ take (start - 1) text ++ 10 ∷ drop start text
at_break text start some within break =
    let i = start - 1 in
    let lt : i < length text = omega arith in
    let next : suc i ≡ start = omega arith in
    let behind : drop i text ≡ 10 ∷ drop start text = drop-cons text i 0 lt ∙ ap (λ b. b ∷ drop (suc i) text) break ∙ ap (λ n. 10 ∷ drop n text) next in
    sym (take-append-drop i text) ∙ ap (λ t. take i text ++ t) behind
