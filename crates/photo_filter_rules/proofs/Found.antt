-- The tree found for a text.
use Rattle.std.proofs.Common.{◌≡◌, ℕ, Bool, true, false, cond, List, Some, None, refl, sym}
use Rattle.std.proofs.lemmas.Bool.{cond-false}
use Rattle.photo_filter_text.specs.Tree.{Tree}
use Rattle.photo_filter_text.specs.Tokens.{tokens_of}
use Rattle.photo_filter_text.specs.Fault.{IsFilter}
use Rattle.photo_filter_text.proofs.Complete.{one-tree}
use Rattle.photo_filter_text.proofs.Decided.{Decided, filter, no_filter, decided}
use Rattle.photo_filter_rules.specs.declared.polarity.Polarity.TheVariants.{Plain}
use Rattle.photo_filter_rules.specs.Alternatives.{is_too_wide}
use Rattle.photo_filter_rules.specs.Filters.{IsFilterOf, IsFoundWhereFilter, tree_of_tokens, filter_of}

wide-or-not : (text : List ℕ) (tree found : Tree) (wide : Bool) → IsFilter (tokens_of text) found → is_too_wide found Plain ≡ wide → cond wide None (Some found) ≡ Some tree → IsFilterOf text tree
wide-or-not text tree found true read e h = cc
wide-or-not text tree found false read e h =
    let same : found ≡ tree = cc in
    rw (sym same) (record { read = read; narrow = e })

found-is : (text : List ℕ) (tree : Tree) (d : Decided (tokens_of text)) → tree_of_tokens d ≡ Some tree → IsFilterOf text tree
found-is text tree (filter found is) h = wide-or-not text tree found (is_too_wide found Plain) is refl h
found-is text tree (no_filter none) h = cc

is-found : (text : List ℕ) (tree : Tree) (d : Decided (tokens_of text)) → IsFilterOf text tree → tree_of_tokens d ≡ Some tree
is-found text tree (filter found is) f =
    let same : found ≡ tree = one-tree (tokens_of text) found tree is.grammar f.read.grammar in
    rw same (cond-false _ _ _ f.narrow)
is-found text tree (no_filter none) f = absurd (none tree f.read)

pub found : IsFoundWhereFilter
unfolding filter_of
found = λ text tree. (found-is text tree (decided (tokens_of text)), is-found text tree (decided (tokens_of text)))

-- no tree is found for a text that isn't a filter
pub not-found : (text : List ℕ) → ((tree : Tree) → IsFilterOf text tree → ⊥) → filter_of text ≡ None
unfolding filter_of
not-found text none = by (decided (tokens_of text))
  where
    by : (d : Decided (tokens_of text)) → tree_of_tokens d ≡ None
    by (filter tree is) = by_width (is_too_wide tree Plain) refl
      where
        by_width : (wide : Bool) → is_too_wide tree Plain ≡ wide → cond wide None (Some tree) ≡ None
        by_width true e = refl
        by_width false e = absurd (none tree (record { read = is; narrow = e }))
    by (no_filter is) = refl
