-- The CR that a line may end in.
use Rattle.std.proofs.Common.{◌≡◌, ◌≢◌, ◌<◌, ◌+◌, ◌-◌, ◌∷◌, ◌++◌, ℕ, List, [], length, get_or, take, Option, Some, None, refl, sym, ap, ◌∙◌, arith, Bor}
use Rattle.std.specs.Option.{MatchOption, unwrap_or}
use Rattle.std.specs.Str.Lines.{strip_carriage_return}
use Rattle.std.proofs.lemmas.Bool.{cond-true, cond-false, eqb-true, eq-eqb, false_from_ne_true}
use Rattle.std.proofs.lemmas.List.{take_at, take_more, take_all, length_push, get_or_push}

strip-end : (front : List ℕ) → strip_carriage_return (front ++ 13 ∷ []) ≡ front
strip-end front =
    let size : length (front ++ 13 ∷ []) ≡ length front + 1 = length_push front 13 in
    let last : length front ≡ length (front ++ 13 ∷ []) - 1 = omega arith in
    cond-true _ _ _ (eq-eqb _ 13 (get_or_push front 13 0 _ last)) ∙ take_at front (13 ∷ []) _ last

-- what isn't empty is its front and its last byte
split_last : (bs : List ℕ) (c : ℕ) → 0 < length bs → get_or bs (length bs - 1) 0 ≡ c → bs ≡ take (length bs - 1) bs ++ c ∷ []
split_last bs c some last =
    let i = length bs - 1 in
    let within : i < length bs = omega arith in
    let whole : i + 1 ≡ length bs = omega arith in
    sym (take_all (length bs) bs (omega arith)) ∙ ap (λ n. take n bs) (sym whole) ∙ take_more bs i 0 within ∙ ap (λ x. take i bs ++ x ∷ []) last

strip-none : (bs : List ℕ) → ((front : List ℕ) → bs ≢ front ++ 13 ∷ []) → strip_carriage_return bs ≡ bs
strip-none [] other = refl
strip-none (b ∷ bs) other =
    cond-false _ _ _ (false_from_ne_true _ (λ t. other _ (split_last (b ∷ bs) 13 (omega arith) (eqb-true _ 13 t))))

pub strip-from_suffix : (line : Bor (List ℕ)) (r : Option (Bor (List ℕ))) → MatchOption r ((front : List ℕ) → line.now ≢ front ++ (13 ∷ [])) (λ x. line.now ≡ x.now ++ (13 ∷ []))
    → (unwrap_or r line).now ≡ strip_carriage_return line.now
strip-from_suffix line None h = sym (strip-none line.now h)
strip-from_suffix line (Some x) h = sym (ap strip_carriage_return h ∙ strip-end x.now)
