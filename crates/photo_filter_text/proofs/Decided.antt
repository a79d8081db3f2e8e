-- Tokens are a filter or not, decidably.
use Rattle.std.proofs.Common.{◌≡◌, ◌≤◌, ◌<◌, List, length, Bool, true, false, leb, Option, Some, None, Result, Ok, Err, refl, ap, arith}
use Rattle.std.proofs.lemmas.Bool.{leb-true, leb-false}
use Rattle.photo_filter_text.specs.declared.reader.Refusal.{Refusal}
use Rattle.photo_filter_text.specs.Tree.{Tree, height}
use Rattle.photo_filter_text.specs.Tokens.{Token}
use Rattle.photo_filter_text.specs.Grammar.{IsExpr}
use Rattle.photo_filter_text.specs.Limits.{max_tokens, max_height}
use Rattle.photo_filter_text.specs.Fault.{IsFilter}
use Rattle.photo_filter_text.specs.Steps.{State, start, run, finish}
use Rattle.photo_filter_text.proofs.Complete.{expr-read, tree_read, one-tree}
use Rattle.photo_filter_text.proofs.Sound.{read-expr}

-- the tokens are a filter of some tree, or of no tree
pub data Decided (ts : List Token) : Type 0 where
  filter : (tree : Tree) → IsFilter ts tree → Decided ts
  no_filter : ((tree : Tree) → IsFilter ts tree → ⊥) → Decided ts

-- Why tokens aren't a filter: too many, one refused, more wanted, or too high a tree

pub too-many : (ts : List Token) → max_tokens < length ts → (tree : Tree) → IsFilter ts tree → ⊥
too-many ts long tree f = let short = f.short in omega arith

pub refused : (ts : List Token) (e : Refusal) → run start ts ≡ Err e → (tree : Tree) → IsFilter ts tree → ⊥
refused ts e ran tree f = let p = expr-read f.grammar in let q = ap tree_read ran in cc

pub unfinished : (ts : List Token) (s : State) → run start ts ≡ Ok s → finish s ≡ None → (tree : Tree) → IsFilter ts tree → ⊥
unfinished ts s ran done tree f = let p = expr-read f.grammar in let q = ap tree_read ran in cc

pub too-high : (ts : List Token) (found : Tree) → IsExpr ts found → max_height < height found → (tree : Tree) → IsFilter ts tree → ⊥
too-high ts found is high tree f =
    let same = ap height (one-tree ts tree found f.grammar is) in
    let low = f.low in
    omega arith

abbrev low-or-high : (ts : List Token) (t : Tree) (low : Bool) → length ts ≤ max_tokens → IsExpr ts t → leb (height t) max_height ≡ low → Decided ts
low-or-high ts t true short is e = filter t (record { short = short; grammar = is; low = leb-true _ _ e })
low-or-high ts t false short is e = no_filter (too-high ts t is (leb-false _ _ e))

abbrev finished-or-not : (ts : List Token) (s : State) (found : Option Tree) → length ts ≤ max_tokens → run start ts ≡ Ok s → finish s ≡ found → Decided ts
finished-or-not ts s (Some t) short ran done = low-or-high ts t (leb (height t) max_height) short (read-expr ts s t ran done) refl
finished-or-not ts s None short ran done = no_filter (unfinished ts s ran done)

abbrev read-or-not : (ts : List Token) (r : Result State Refusal) → length ts ≤ max_tokens → run start ts ≡ r → Decided ts
read-or-not ts (Ok s) short ran = finished-or-not ts s (finish s) short ran refl
read-or-not ts (Err e) short ran = no_filter (refused ts e ran)

abbrev short-or-long : (ts : List Token) (short : Bool) → leb (length ts) max_tokens ≡ short → Decided ts
short-or-long ts true e = read-or-not ts (run start ts) (leb-true _ _ e) refl
short-or-long ts false e = no_filter (too-many ts (leb-false _ _ e))

abbrev pub decided : (ts : List Token) → Decided ts
decided ts = short-or-long ts (leb (length ts) max_tokens) refl
