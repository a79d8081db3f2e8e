-- Tokens have at most one first fault.
use Rattle.std.proofs.Common.{◌≡◌, ◌≢◌, ℕ, ◌<◌, ◌≤◌, List, [], length, append-nil, take, drop, leb, Bool, true, false, refl, sym, ap, subst, arith}
use Rattle.std.proofs.lemmas.List.{take-append-drop, take-take}
use Rattle.std.proofs.lemmas.Bool.{leb-true, leb-false}
use Rattle.photo_filter_text.specs.declared.fault.FilterFault.{FilterFault}
use Rattle.photo_filter_text.specs.declared.fault.FilterFault.TheVariants.{Empty, Unexpected, EndsEarly, TooDeep, TooManyTokens, BadWord, NoMemory}
use Rattle.photo_filter_text.specs.Tree.{Tree}
use Rattle.photo_filter_text.specs.Tokens.{Token}
use Rattle.photo_filter_text.specs.Grammar.{IsExpr}
use Rattle.photo_filter_text.specs.Limits.{max_tokens}
use Rattle.photo_filter_text.specs.Fronts.{IsWordAt, Begins, StopsAt}
use Rattle.photo_filter_text.specs.Fault.{IsFault, IsRoomy}
use Rattle.photo_filter_text.proofs.Sound.{begins-front}

-- if a filter begins with these tokens, one begins with any first part of them
pub begins-take : (k n : ℕ) (ts : List Token) → k ≤ n → Begins (take n ts) → Begins (take k ts)
begins-take k n ts h b =
    let e : take k (take n ts) ≡ take k ts = take-take k n ts h in
    let whole = subst Begins (sym (take-append-drop k (take n ts))) b in
    subst Begins e (begins-front (take k (take n ts)) (drop k (take n ts)) whole)

begins-of : (k : ℕ) (ts : List Token) → Begins ts → Begins (take k ts)
begins-of k ts b = begins-front (take k ts) (drop k ts) (subst Begins (sym (take-append-drop k ts)) b)

one-stop : (ts : List Token) (k m : ℕ) → StopsAt ts k → StopsAt ts m → k ≡ m
one-stop ts k m s t = go (leb k t.before) (leb m s.before) refl refl
  where
    go : (a b : Bool) → leb k t.before ≡ a → leb m s.before ≡ b → k ≡ m
    go true b e f = absurd (s.stops (begins-take k t.before ts (leb-true _ _ e) t.goes_on))
    go false true e f = absurd (t.stops (begins-take m s.before ts (leb-true _ _ f) s.goes_on))
    go false false e f =
        let p = leb-false _ _ e in
        let q = leb-false _ _ f in
        let x = s.number in
        let y = t.number in
        omega arith

roomy-not-long : (ts : List Token) → IsRoomy ts → max_tokens < length ts → ⊥
roomy-not-long ts r l = let s = r.1 in omega arith

empty-not-long : (ts : List Token) → ts ≡ [] → max_tokens < length ts → ⊥
empty-not-long ts e l = let n = ap length e in omega arith

pub tree-begins : (ts : List Token) (tree : Tree) → IsExpr ts tree → Begins ts
tree-begins ts tree e = ([], tree, subst (λ (ys : List Token). IsExpr ys tree) (sym (append-nil ts)) e)

stops-none : (ts : List Token) (k : ℕ) → StopsAt ts k → Begins ts → ⊥
stops-none ts k s b = s.stops (begins-of k ts b)

word-or-not : (ts : List Token) (k m : ℕ) → StopsAt ts k → StopsAt ts m → (IsWordAt ts k → ⊥) → IsWordAt ts m → ⊥
word-or-not ts k m s t never word = never (subst (IsWordAt ts) (one-stop ts m k t s) word)

pub one-fault : (ts : List Token) (f g : FilterFault) → f ≢ NoMemory → g ≢ NoMemory → IsFault ts f → IsFault ts g → f ≡ g
one-fault ts Empty Empty nf ng x y = refl
one-fault ts Empty TooManyTokens nf ng x y = absurd (empty-not-long ts x y)
one-fault ts Empty (Unexpected m) nf ng x y = absurd (y.0.0 x)
one-fault ts Empty BadWord nf ng x y = absurd (y.0.0 x)
one-fault ts Empty EndsEarly nf ng x y = absurd (y.0.0 x)
one-fault ts Empty TooDeep nf ng x y = absurd (y.0.0 x)
one-fault ts Empty NoMemory nf ng x y = absurd (ng refl)
one-fault ts TooManyTokens Empty nf ng x y = absurd (empty-not-long ts y x)
one-fault ts TooManyTokens TooManyTokens nf ng x y = refl
one-fault ts TooManyTokens (Unexpected m) nf ng x y = absurd (roomy-not-long ts y.0 x)
one-fault ts TooManyTokens BadWord nf ng x y = absurd (roomy-not-long ts y.0 x)
one-fault ts TooManyTokens EndsEarly nf ng x y = absurd (roomy-not-long ts y.0 x)
one-fault ts TooManyTokens TooDeep nf ng x y = absurd (roomy-not-long ts y.0 x)
one-fault ts TooManyTokens NoMemory nf ng x y = absurd (ng refl)
one-fault ts (Unexpected k) Empty nf ng x y = absurd (x.0.0 y)
one-fault ts (Unexpected k) TooManyTokens nf ng x y = absurd (roomy-not-long ts x.0 y)
one-fault ts (Unexpected k) (Unexpected m) nf ng x y = ap Unexpected (one-stop ts k m x.1 y.1)
one-fault ts (Unexpected k) BadWord nf ng x y = absurd (word-or-not ts k y.1.0 x.1 y.1.1 x.2 y.1.2)
one-fault ts (Unexpected k) EndsEarly nf ng x y = absurd (stops-none ts k x.1 y.1)
one-fault ts (Unexpected k) TooDeep nf ng x y = absurd (stops-none ts k x.1 (tree-begins ts y.1.0 y.1.1))
one-fault ts (Unexpected k) NoMemory nf ng x y = absurd (ng refl)
one-fault ts BadWord Empty nf ng x y = absurd (x.0.0 y)
one-fault ts BadWord TooManyTokens nf ng x y = absurd (roomy-not-long ts x.0 y)
one-fault ts BadWord (Unexpected m) nf ng x y = absurd (word-or-not ts m x.1.0 y.1 x.1.1 y.2 x.1.2)
one-fault ts BadWord BadWord nf ng x y = refl
one-fault ts BadWord EndsEarly nf ng x y = absurd (stops-none ts x.1.0 x.1.1 y.1)
one-fault ts BadWord TooDeep nf ng x y = absurd (stops-none ts x.1.0 x.1.1 (tree-begins ts y.1.0 y.1.1))
one-fault ts BadWord NoMemory nf ng x y = absurd (ng refl)
one-fault ts EndsEarly Empty nf ng x y = absurd (x.0.0 y)
one-fault ts EndsEarly TooManyTokens nf ng x y = absurd (roomy-not-long ts x.0 y)
one-fault ts EndsEarly (Unexpected m) nf ng x y = absurd (stops-none ts m y.1 x.1)
one-fault ts EndsEarly BadWord nf ng x y = absurd (stops-none ts y.1.0 y.1.1 x.1)
one-fault ts EndsEarly EndsEarly nf ng x y = refl
one-fault ts EndsEarly TooDeep nf ng x y = absurd (x.2 y.1.0 y.1.1)
one-fault ts EndsEarly NoMemory nf ng x y = absurd (ng refl)
one-fault ts TooDeep Empty nf ng x y = absurd (x.0.0 y)
one-fault ts TooDeep TooManyTokens nf ng x y = absurd (roomy-not-long ts x.0 y)
one-fault ts TooDeep (Unexpected m) nf ng x y = absurd (stops-none ts m y.1 (tree-begins ts x.1.0 x.1.1))
one-fault ts TooDeep BadWord nf ng x y = absurd (stops-none ts y.1.0 y.1.1 (tree-begins ts x.1.0 x.1.1))
one-fault ts TooDeep EndsEarly nf ng x y = absurd (y.2 x.1.0 x.1.1)
one-fault ts TooDeep TooDeep nf ng x y = refl
one-fault ts TooDeep NoMemory nf ng x y = absurd (ng refl)
one-fault ts NoMemory g nf ng x y = absurd (nf refl)
