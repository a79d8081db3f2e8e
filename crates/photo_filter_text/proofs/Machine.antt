-- The reader's runs over lists of tokens.
use Rattle.std.proofs.Common.{◌≡◌, List, [], ◌∷◌, ◌++◌, Result, Ok, Err, refl, ap, ◌∙◌}
use Rattle.photo_filter_text.specs.declared.reader.Refusal.{Refusal}
use Rattle.photo_filter_text.specs.Tokens.{Token}
use Rattle.photo_filter_text.specs.Steps.{State, step, go_on, run}

pub run-append : (xs ys : List Token) (s : State) → run s (xs ++ ys) ≡ go_on (λ r. run r ys) (run s xs)
run-append [] ys s = refl
run-append (x ∷ xs) ys s = by_step (step s x) (run-append xs ys)
  where
    by_step : (r : Result State Refusal) → ((q : State) → run q (xs ++ ys) ≡ go_on (λ p. run p ys) (run q xs)) → go_on (λ q. run q (xs ++ ys)) r ≡ go_on (λ q. run q ys) (go_on (λ q. run q xs) r)
    by_step (Ok q) more = more q
    by_step (Err e) more = refl

-- a run over two lists is a run over the second, from the state after the first
pub run-over : (xs ys : List Token) (s r : State) → run s xs ≡ Ok r → run s (xs ++ ys) ≡ run r ys
run-over xs ys s r h = run-append xs ys s ∙ ap (go_on (λ q. run q ys)) h

pub go_on-ok : (r : Result State Refusal) → r ≡ go_on (λ q. run q []) r
go_on-ok (Ok q) = refl
go_on-ok (Err e) = refl
