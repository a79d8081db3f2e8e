-- Which tokens are a filter within the limits, and the first fault of all other tokens.
use Rattle.std.specs.Prelude.{◌≡◌, ◌≢◌, ℕ, ◌<◌, ◌≤◌, List, [], length}
use Rattle.photo_filter_text.specs.Tree.{Tree, height}
use Rattle.photo_filter_text.specs.Tokens.{Token}
use Rattle.photo_filter_text.specs.Grammar.{IsExpr}
use Rattle.photo_filter_text.specs.declared.fault.FilterFault.{FilterFault}
use Rattle.photo_filter_text.specs.declared.fault.FilterFault.TheVariants.{Empty, Unexpected, EndsEarly, TooDeep, TooManyTokens, BadWord, NoMemory}
use Rattle.photo_filter_text.specs.Limits.{max_tokens, max_height}
use Rattle.photo_filter_text.specs.Fronts.{Begins, StopsAt, IsWordAt}
use Rattle.photo_filter_text.specs.Memory.{MayWantMemory}

-- there is a token, and there are at most 256
abbrev pub IsRoomy : List Token → Type 0
IsRoomy ts = (ts ≢ []) × (length ts ≤ max_tokens)

-- the tokens are a filter of this tree, within both limits
pub record IsFilter (ts : List Token) (tree : Tree) : Type 0 where
  pub short : length ts ≤ max_tokens
  pub grammar : IsExpr ts tree
  pub low : height tree ≤ max_height

-- this is the tokens' first fault, or memory was refused before that fault was met
abbrev pub IsFault : List Token → FilterFault → Type 0
IsFault ts Empty = ts ≡ []
IsFault ts TooManyTokens = max_tokens < length ts
IsFault ts (Unexpected k) = IsRoomy ts × StopsAt ts k × (IsWordAt ts k → ⊥)
IsFault ts BadWord = IsRoomy ts × ((k : ℕ) × StopsAt ts k × IsWordAt ts k)
IsFault ts EndsEarly = IsRoomy ts × Begins ts × ((tree : Tree) → IsExpr ts tree → ⊥)
IsFault ts TooDeep = IsRoomy ts × ((tree : Tree) × IsExpr ts tree × (max_height < height tree))
IsFault ts NoMemory = IsRoomy ts × MayWantMemory ts
