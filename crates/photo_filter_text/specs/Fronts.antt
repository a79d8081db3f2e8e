-- Which tokens some filter begins with, and the first token at which no filter goes on.
use Rattle.std.specs.Prelude.{◌≡◌, ℕ, ◌+◌, ◌<◌, false, List, [], ◌∷◌, ◌++◌, length, take, slice_index_or, codes}
use Rattle.photo_filter_text.specs.Tree.{Tree}
use Rattle.photo_filter_text.specs.Tokens.{Token}
use Rattle.photo_filter_text.specs.Grammar.{IsExpr, is_bracket}

-- some filter of the grammar begins with these tokens
abbrev pub Begins : List Token → Type 0
Begins front = (more : List Token) × (tree : Tree) × IsExpr (front ++ more) tree

-- token k, counted from 1, is the first such that no filter begins with tokens 1 to k
pub record StopsAt (ts : List Token) (k : ℕ) : Type 0 where
  pub before : ℕ
  pub number : k ≡ before + 1
  pub within : before < length ts
  pub goes_on : Begins (take before ts)
  pub stops : Begins (take k ts) → ⊥

-- a word must come after these tokens: they end in `keyword`, at a place where a bracket may open
abbrev pub WantsWord : List Token → Type 0
WantsWord front = (before : List Token) × (front ≡ before ++ codes "keyword" ∷ []) × Begins (before ++ codes "(" ∷ [])

-- token k stands where a word must come, and isn't a bracket
abbrev pub IsWordAt : List Token → ℕ → Type 0
IsWordAt ts k = (before : ℕ) × (k ≡ before + 1) × WantsWord (take before ts) × (is_bracket (slice_index_or ts before []) ≡ false)
