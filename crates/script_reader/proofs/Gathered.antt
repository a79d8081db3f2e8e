-- What lines say when more lines follow.
use Rattle.std.proofs.Common.{◌≡◌, ◌+◌, ◌∷◌, ◌++◌, ℕ, suc, List, [], length, Option, Result, Ok, Err, refl, sym, ap, ◌∙◌, append_assoc, add-zero, arith}
use Rattle.std.specs.Option.{option_to_list}
use Rattle.std.proofs.lemmas.List.{append-nil}
use Rattle.script_reader.specs.Earlier.{earlier}
use Rattle.script_reader.specs.Saying.{said}
use Rattle.script_reader.specs.Reading.{sayings, with_front, commands_said}
use Rattle.fleet_model.specs.declared.command.Command.{Command}
use Rattle.script_reader.specs.declared.fault.LineFault.{LineFault}
use Rattle.script_reader.specs.declared.fault.ScriptFault.{ScriptFault}
use Rattle.script_reader.specs.declared.fault.ScriptFault.TheVariants.{Line}

with_front-nil : (r : Result (List Command) ScriptFault) → with_front [] r ≡ r
with_front-nil (Ok commands) = refl
with_front-nil (Err e) = refl

with_front-twice : (xs ys : List Command) (r : Result (List Command) ScriptFault) → with_front xs (with_front ys r) ≡ with_front (xs ++ ys) r
with_front-twice xs ys (Ok commands) = ap Ok (sym (append_assoc xs ys commands))
with_front-twice xs ys (Err e) = refl

abbrev Said : Type 0
Said = Result (Option Command) LineFault

-- one line more in front of what goes on
said-step : (n : ℕ) (first : Said) (front all : List Said) (rest : Result (List Command) ScriptFault) (commands : List Command)
    → ((more : List Command) → commands_said (n + 1) front ≡ Ok more → commands_said (n + 1) all ≡ with_front more rest)
    → commands_said n (first ∷ front) ≡ Ok commands → commands_said n (first ∷ all) ≡ with_front commands rest
said-step n (Err e) front all rest commands goes h = cc
said-step n (Ok x) front all rest commands goes h = by (commands_said (n + 1) front) refl h
  where
    by : (r : Result (List Command) ScriptFault) → commands_said (n + 1) front ≡ r → with_front (option_to_list x) r ≡ Ok commands → with_front (option_to_list x) (commands_said (n + 1) all) ≡ with_front commands rest
    by (Err e) was k = cc
    by (Ok more) was k =
        let same : option_to_list x ++ more ≡ commands = cc in
        ap (with_front (option_to_list x)) (goes more was) ∙ with_front-twice (option_to_list x) more rest ∙ ap (λ c. with_front c rest) same

-- where the first lines have no fault, their commands come first
pub commands_said-append : (n : ℕ) (before xs ys : List (List ℕ)) (commands : List Command) → commands_said n (sayings before xs) ≡ Ok commands
    → commands_said n (sayings before (xs ++ ys)) ≡ with_front commands (commands_said (n + length xs) (sayings (before ++ xs) ys))
commands_said-append n before [] ys commands h =
    let none : [] ≡ commands = cc in
    rw (add-zero, append-nil before) (sym (with_front-nil _) ∙ ap (λ c. with_front c (commands_said n (sayings before ys))) none)
commands_said-append n before (x ∷ xs) ys commands h =
    let place : (n + 1) + length xs ≡ n + suc (length xs) = omega arith in
    let lines = append_assoc before (x ∷ []) xs in
    said-step n (said (earlier before) x) (sayings (before ++ x ∷ []) xs) (sayings (before ++ x ∷ []) (xs ++ ys)) (commands_said (n + suc (length xs)) (sayings (before ++ x ∷ xs) ys)) commands
    (λ more k. commands_said-append (n + 1) (before ++ x ∷ []) xs ys more k ∙ ap (λ m. with_front more (commands_said m (sayings ((before ++ x ∷ []) ++ xs) ys))) place ∙ ap (λ b. with_front more (commands_said (n + suc (length xs)) (sayings b ys))) lines) h

refused-step : (n : ℕ) (first : Said) (front all : List Said) (e : ScriptFault)
    → (commands_said (n + 1) front ≡ Err e → commands_said (n + 1) all ≡ Err e)
    → commands_said n (first ∷ front) ≡ Err e → commands_said n (first ∷ all) ≡ Err e
refused-step n (Err f) front all e goes h = h
refused-step n (Ok x) front all e goes h = by (commands_said (n + 1) front) refl h
  where
    by : (r : Result (List Command) ScriptFault) → commands_said (n + 1) front ≡ r → with_front (option_to_list x) r ≡ Err e → with_front (option_to_list x) (commands_said (n + 1) all) ≡ Err e
    by (Ok more) was k = cc
    by (Err d) was k = let same : d ≡ e = cc in ap (with_front (option_to_list x)) (goes (was ∙ ap Err same))

-- a fault stays the first one
pub commands_said-refused : (n : ℕ) (before xs ys : List (List ℕ)) (e : ScriptFault) → commands_said n (sayings before xs) ≡ Err e → commands_said n (sayings before (xs ++ ys)) ≡ Err e
commands_said-refused n before [] ys e h = cc
commands_said-refused n before (x ∷ xs) ys e h =
    refused-step n (said (earlier before) x) (sayings (before ++ x ∷ []) xs) (sayings (before ++ x ∷ []) (xs ++ ys)) e (commands_said-refused (n + 1) (before ++ x ∷ []) xs ys e) h

module _ (lines : List (List ℕ)) (line : List ℕ) (commands : List Command) (front : commands_said 1 (sayings [] lines) ≡ Ok commands) where
  -- one line more that says something
  pub commands_said-more : (x : Option Command) → said (earlier lines) line ≡ Ok x → commands_said 1 (sayings [] (lines ++ line ∷ [])) ≡ Ok (commands ++ option_to_list x)
  commands_said-more x h = commands_said-append 1 [] lines (line ∷ []) commands front ∙ rw h (ap (λ c. Ok (commands ++ c)) (append-nil (option_to_list x)))

  -- one line more that has a fault, whatever follows it
  pub commands_said-fault : (rest : List (List ℕ)) (f : LineFault) → said (earlier lines) line ≡ Err f → commands_said 1 (sayings [] (lines ++ line ∷ rest)) ≡ Err (Line (1 + length lines) f)
  commands_said-fault rest f h = commands_said-append 1 [] lines (line ∷ rest) commands front ∙ rw h refl
