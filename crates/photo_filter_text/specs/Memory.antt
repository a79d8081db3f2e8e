-- Where reading may ask for memory.
use Rattle.std.specs.Prelude.{◌≡◌, ◌⊎◌, ℕ, ◌≤◌, Bool, ◌||◌, List, [], ◌∷◌, ◌++◌, length, take, codes}
use Rattle.std.specs.Str.{bytes_eq}
use Rattle.photo_filter_text.specs.Tree.{Tree}
use Rattle.photo_filter_text.specs.Tokens.{Token}
use Rattle.photo_filter_text.specs.Grammar.{IsFactor, IsTerm, IsExpr}
use Rattle.photo_filter_text.specs.Fronts.{Begins, IsWordAt}

-- the last of these tokens makes the reader allocate: it opens a bracket, it ends the factor of a `not` or an `and`, or it
-- follows the term of an `or` and is an `or` or a closing bracket
pub data IsKept : List Token → Type 0 where
  bracket : (before : List Token) → IsKept (before ++ codes "(" ∷ [])
  negation : (before : List Token) → {part : List Token} {t : Tree} → IsFactor part t → IsKept (before ++ codes "not" ∷ part)
  conjunction : (before : List Token) → {part : List Token} {t : Tree} → IsFactor part t → IsKept (before ++ codes "and" ∷ part)
  disjunction : (before : List Token) → {part : List Token} {t : Tree} {next : Token} → IsTerm part t → (next ≡ codes "or") ⊎ (next ≡ codes ")") → IsKept (before ++ codes "or" ∷ (part ++ next ∷ []))

-- the reader may ask for memory: at a token that makes it allocate, where some filter begins with the tokens up to it; at a
-- token in the place of a word; or at the end of a filter, for the term of its last `or`
pub data MayWantMemory (ts : List Token) : Type 0 where
  at_token : (k : ℕ) → Begins (take k ts) → IsKept (take k ts) → MayWantMemory ts
  at_word : (k : ℕ) → k ≤ length ts → IsWordAt ts k → MayWantMemory ts
  at_end : (before : List Token) → {part : List Token} {tree last : Tree} → IsExpr ts tree → ts ≡ before ++ codes "or" ∷ part → IsTerm part last → MayWantMemory ts

-- tokens without any of these make the reader allocate nothing
abbrev pub is_keeper : Token → Bool
is_keeper token =
    bytes_eq token (codes "(") || (bytes_eq token (codes "not") || (bytes_eq token (codes "and")
    || (bytes_eq token (codes "or") || bytes_eq token (codes "keyword"))))
