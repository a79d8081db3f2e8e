-- Which texts are filters.
use Rattle.std.specs.Prelude.{◌≡◌, ℕ, false, ◌↔◌, if◌then◌else◌, List, Option, Some, None}
use Rattle.photo_filter_text.specs.Tree.{Tree}
use Rattle.photo_filter_text.specs.Tokens.{Token, tokens_of}
use Rattle.photo_filter_text.specs.Fault.{IsFilter}
use Rattle.photo_filter_text.proofs.Decided.{Decided, filter, no_filter, decided}
use Rattle.photo_filter_rules.specs.declared.polarity.Polarity.TheVariants.{Plain}
use Rattle.photo_filter_rules.specs.Alternatives.{is_too_wide}

-- the text is a filter of this tree: it follows the grammar, keeps within the limits, and isn't too wide
pub record IsFilterOf (text : List ℕ) (tree : Tree) : Type 0 where
  pub read : IsFilter (tokens_of text) tree
  pub narrow : is_too_wide tree Plain ≡ false

abbrev pub unless_wide : Tree → Option Tree
unless_wide tree = if is_too_wide tree Plain then None else Some tree

-- the tree of the tokens, by a decision whether they are a filter; the decision's type states what it decides
abbrev pub tree_of_tokens : {tokens : List Token} → Decided tokens → Option Tree
tree_of_tokens (filter tree is_filter) = unless_wide tree
tree_of_tokens (no_filter is_none) = None

-- the tree of a text, if the text is a filter
unfoldable pub filter_of : List ℕ → Option Tree
filter_of text = tree_of_tokens (decided (tokens_of text))

abbrev pub IsFoundWhereFilter : Type 0
IsFoundWhereFilter = (text : List ℕ) (tree : Tree) → (filter_of text ≡ Some tree) ↔ IsFilterOf text tree
