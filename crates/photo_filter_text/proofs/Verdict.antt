-- A filter within the limits has no fault.
use Rattle.std.proofs.Common.{◌≡◌, ℕ, List, [], length, take, drop, Result, Ok, Err, IfOk, IfErr, MatchResult, refl, sym, ap, subst, arith}
use Rattle.std.proofs.lemmas.List.{take-append-drop, take_all, length-drop}
use Rattle.photo_filter_text.specs.declared.fault.FilterFault.{FilterFault}
use Rattle.photo_filter_text.specs.declared.fault.FilterFault.TheVariants.{Empty, Unexpected, EndsEarly, TooDeep, TooManyTokens, BadWord, NoMemory}
use Rattle.photo_filter_text.specs.declared.tree.FilterTree.{FilterTree}
use Rattle.photo_filter_text.specs.Tree.{Tree, tree_of, height}
use Rattle.photo_filter_text.specs.Tokens.{Token}
use Rattle.photo_filter_text.specs.Grammar.{IsExpr}
use Rattle.photo_filter_text.specs.Fronts.{Begins}
use Rattle.photo_filter_text.specs.Fault.{IsFilter, IsFault}
use Rattle.photo_filter_text.specs.Steps.{start, run}
use Rattle.photo_filter_text.proofs.Complete.{expr-read, tree_read, one-tree}

not-empty : (ts : List Token) (tree : Tree) → IsExpr ts tree → ts ≡ [] → ⊥
not-empty ts tree e n = let p = expr-read e in let q = ap (λ ys. tree_read (run start ys)) n in cc

begins-all : (ts : List Token) (tree : Tree) (k : ℕ) → IsExpr ts tree → Begins (take k ts)
begins-all ts tree k e = (drop k ts, tree, subst (λ (ys : List Token). IsExpr ys tree) (sym (take-append-drop k ts)) e)

pub no-fault : (ts : List Token) (tree : Tree) (fault : FilterFault) → IsFilter ts tree → IsFault ts fault → fault ≡ NoMemory
no-fault ts tree Empty f h = absurd (not-empty ts tree f.grammar h)
no-fault ts tree TooManyTokens f h = absurd (omega arith)
no-fault ts tree (Unexpected k) f h = absurd (h.1.stops (begins-all ts tree k f.grammar))
no-fault ts tree BadWord f h = absurd (h.1.1.stops (begins-all ts tree h.1.0 f.grammar))
no-fault ts tree EndsEarly f h = absurd (h.2 tree f.grammar)
no-fault ts tree TooDeep f h =
    let e = ap height (one-tree ts h.1.0 tree h.1.1 f.grammar) in
    let deep = h.1.2 in
    let low = f.low in
    absurd (omega arith)
no-fault ts tree NoMemory f h = refl

pub accepted : (ts : List Token) (r : Result FilterTree FilterFault) → IfOk r (λ t. IsFilter ts (tree_of t)) → IfErr r (IsFault ts) → (tree : Tree) → IsFilter ts tree → MatchResult r (λ t. tree_of t ≡ tree) (λ f. f ≡ NoMemory)
accepted ts (Ok t) o e tree f = one-tree ts (tree_of t) tree o.grammar f.grammar
accepted ts (Err x) o e tree f = no-fault ts tree x f e

pub all-taken : (n : ℕ) (ts : List Token) → drop n ts ≡ [] → take n ts ≡ ts
all-taken n ts h = let l = ap length h in let m = length-drop n ts in take_all n ts (omega arith)
