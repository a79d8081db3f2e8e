-- What the reader reads is in the grammar, and some filter goes on from whatever it has read.
use Rattle.std.proofs.Common.{◌≡◌, ℕ, suc, zero, ◌+◌, Bool, true, false, List, [], ◌∷◌, ◌++◌, Option, Some, None, Result, Ok, Err, refl, sym, ap, subst, ◌∙◌, cond, add-one, append_assoc, append-nil, ℤ}
use Rattle.std.specs.Prelude.{codes}
use Rattle.std.specs.Str.{bytes_eq}
use Rattle.std.proofs.lemmas.Slice.Eq.{bytes_eq-Decides}
use Rattle.photo_record.specs.Reading.{rating_of_text, day_of_text, word_of_text}
use Rattle.photo_filter_text.specs.declared.tree.Cmp.{Cmp}
use Rattle.photo_filter_text.specs.declared.reader.Refusal.{Refusal}
use Rattle.photo_filter_text.specs.declared.reader.Field.{Field}
use Rattle.photo_filter_text.specs.declared.reader.Field.TheVariants.{RatingField, DayField}
use Rattle.photo_filter_text.specs.declared.symbol.Symbol.{Symbol}
use Rattle.photo_filter_text.specs.declared.symbol.Symbol.TheVariants.{Open, Close, OrWord, AndWord, NotWord, AllWord, NoneWord, RatingWord, DayWord, KeywordWord, Other}
use Rattle.photo_filter_text.specs.Tree.{Tree, All, Nothing, Rate, On, Keyword, Both, Either}
use Rattle.photo_filter_text.specs.Tokens.{Token}
use Rattle.photo_filter_text.specs.Grammar.{all, none, rating, day, keyword, IsFactor, negation, brackets, test, IsTerm, factor, conjunction, IsExpr, term, disjunction, cmp_of, is_bracket}
use Rattle.photo_filter_text.specs.Fronts.{Begins}
use Rattle.photo_filter_text.specs.Steps.{Place, AtFactor, AtOperator, AtValue, AtWord, After, Level, State, level_with, fresh, start, joined, negated, after_factor, at_factor, after_term, closed, test_of, at_operator, at_word, step_at, step, finished, finish, symbol_of, go_on, run}

-- the token that spells a symbol
abbrev pub IsSpelled : Symbol → Token → Type 0
IsSpelled Open t = t ≡ codes "("
IsSpelled Close t = t ≡ codes ")"
IsSpelled OrWord t = t ≡ codes "or"
IsSpelled AndWord t = t ≡ codes "and"
IsSpelled NotWord t = t ≡ codes "not"
IsSpelled AllWord t = t ≡ codes "all"
IsSpelled NoneWord t = t ≡ codes "none"
IsSpelled RatingWord t = t ≡ codes "rating"
IsSpelled DayWord t = t ≡ codes "day"
IsSpelled KeywordWord t = t ≡ codes "keyword"
IsSpelled Other t = Unit {0}

pick : (t c : Token) (s r : Symbol) → (t ≡ c → IsSpelled s t) → IsSpelled r t → IsSpelled (cond (bytes_eq t c) s r) t
pick t c s r f rest = go (bytes_eq t c) refl
  where
    go : (b : Bool) → bytes_eq t c ≡ b → IsSpelled (cond b s r) t
    go true e = f ((bytes_eq-Decides t c).0 e)
    go false e = rest

pub symbol_spelled : (t : Token) → IsSpelled (symbol_of t) t
unfolding symbol_of
symbol_spelled t =
    pick t (codes "(") Open _ (λ e. e) (pick t (codes ")") Close _ (λ e. e) (pick t (codes "or") OrWord _ (λ e. e)
    (pick t (codes "and") AndWord _ (λ e. e) (pick t (codes "not") NotWord _ (λ e. e) (pick t (codes "all") AllWord _ (λ e. e)
    (pick t (codes "none") NoneWord _ (λ e. e) (pick t (codes "rating") RatingWord _ (λ e. e) (pick t (codes "day") DayWord _ (λ e. e)
    (pick t (codes "keyword") KeywordWord Other (λ e. e) tt)))))))))

-- the tokens before an `or`
abbrev pub OrAt : Option Tree → List Token → Type 0
OrAt None ts = ts ≡ []
OrAt (Some a) ts = (xs : List Token) × IsExpr xs a × (ts ≡ xs ++ codes "or" ∷ [])

-- the tokens before an `and`
abbrev pub AndAt : Option Tree → List Token → Type 0
AndAt None ts = ts ≡ []
AndAt (Some a) ts = (xs : List Token) × IsTerm xs a × (ts ≡ xs ++ codes "and" ∷ [])

abbrev pub nots : ℕ → List Token
nots zero = []
nots (suc n) = codes "not" ∷ nots n

pub record LevelAt (l : Level) (ts : List Token) : Type 0 where
  pub ors : List Token
  pub ands : List Token
  pub or_at : OrAt l.either ors
  pub and_at : AndAt l.both ands
  pub whole : ts ≡ ors ++ (ands ++ nots l.negations)

pub record TermAt (e : Option Tree) (t : Tree) (ts : List Token) : Type 0 where
  pub ors : List Token
  pub last : List Token
  pub or_at : OrAt e ors
  pub is_term : IsTerm last t
  pub whole : ts ≡ ors ++ last

-- the tokens of the open levels, from the outermost on
abbrev pub OpenAt : List Level → List Token → Type 0
OpenAt [] ts = ts ≡ []
OpenAt (l ∷ outer) ts = (us : List Token) × (ls : List Token) × OpenAt outer us × LevelAt l ls × (ts ≡ us ++ (ls ++ codes "(" ∷ []))

pub expr-from_term : (e : Option Tree) (t : Tree) (ts : List Token) → TermAt e t ts → IsExpr ts (joined Either e t)
expr-from_term None t ts h = let P : List Token → Type 0 = λ xs. IsExpr xs t in subst P (sym (h.whole ∙ ap (λ o. o ++ h.last) h.or_at)) (term h.is_term)
expr-from_term (Some a) t ts h =
    let P : List Token → Type 0 = λ xs. IsExpr xs (Either a t) in
    let e : ts ≡ h.or_at.0 ++ codes "or" ∷ h.last = h.whole ∙ ap (λ o. o ++ h.last) h.or_at.2 ∙ append_assoc h.or_at.0 (codes "or" ∷ []) h.last in
    subst P (sym e) (disjunction h.or_at.1 h.is_term)

pub nots-factor : (n : ℕ) (xs : List Token) (t : Tree) → IsFactor xs t → IsFactor (nots n ++ xs) (negated n t)
nots-factor zero xs t f = f
nots-factor (suc n) xs t f = negation (nots-factor n xs t f)

and-factor : (b : Option Tree) (ands xs : List Token) (t : Tree) → AndAt b ands → IsFactor xs t → IsTerm (ands ++ xs) (joined Both b t)
and-factor None ands xs t h f = let P : List Token → Type 0 = λ ys. IsTerm ys t in subst P (ap (λ o. o ++ xs) (sym h)) (factor f)
and-factor (Some a) ands xs t h f =
    let P : List Token → Type 0 = λ ys. IsTerm ys (Both a t) in
    let e : ands ++ xs ≡ h.0 ++ codes "and" ∷ xs = ap (λ o. o ++ xs) h.2 ∙ append_assoc h.0 (codes "and" ∷ []) xs in
    subst P (sym e) (conjunction h.1 f)

-- a level and a factor make a term
pub level-factor : (l : Level) (ls xs : List Token) (t : Tree) → LevelAt l ls → IsFactor xs t → TermAt l.either (joined Both l.both (negated l.negations t)) (ls ++ xs)
level-factor l ls xs t h f = record {
  ors = h.ors;
  last = h.ands ++ (nots l.negations ++ xs);
  or_at = h.or_at;
  is_term = and-factor l.both h.ands _ _ h.and_at (nots-factor l.negations xs t f);
  whole = ap (λ ys. ys ++ xs) h.whole ∙ append_assoc h.ors (h.ands ++ nots l.negations) xs ∙ ap (λ ys. h.ors ++ ys) (append_assoc h.ands (nots l.negations) xs);
}

-- if a filter begins with these tokens, one begins with their front
pub begins-front : (front more : List Token) → Begins (front ++ more) → Begins front
begins-front front more b =
    let P : List Token → Type 0 = λ ys. IsExpr ys b.1 in (more ++ b.0, b.1, subst P (append_assoc front more b.0) b.2)

pub regroup : (us ys ks ls : List Token) (x y : Token) → us ≡ ys ++ (ks ++ x ∷ []) → ys ++ (ks ++ x ∷ (ls ++ y ∷ [])) ≡ (us ++ ls) ++ y ∷ []
regroup us ys ks ls x y e = rw e (simp append_assoc)

-- a term in open brackets begins a filter: the brackets can be closed
pub close : (outer : List Level) (us ls : List Token) (e : Option Tree) (t : Tree) → OpenAt outer us → TermAt e t ls → Begins (us ++ ls)
close [] us ls e t o h =
    let P : List Token → Type 0 = λ ys. IsExpr ys (joined Either e t) in
    let q : ls ≡ (us ++ ls) ++ [] = sym (append-nil (us ++ ls) ∙ ap (λ ys. ys ++ ls) o) in
    ([], joined Either e t, subst P q (expr-from_term e t ls h))
close (l ∷ outer) us ls e t o h =
    let inner = expr-from_term e t ls h in
    let whole = level-factor l o.1 _ _ o.3 (brackets inner) in
    let b = close outer o.0 _ _ _ o.2 whole in
    begins-front (us ++ ls) (codes ")" ∷ []) (subst Begins (regroup us o.0 o.1 ls (codes "(") (codes ")") o.4) b)

-- the token of a field, with which its test begins
abbrev pub field_token : Field → Token
field_token RatingField = codes "rating"
field_token DayField = codes "day"

-- these tokens lead to this state
abbrev pub PlaceAt : Place → Level → List Level → List Token → Type 0
PlaceAt (After t) l outer ts = (us : List Token) × (ls : List Token) × OpenAt outer us × TermAt l.either t ls × (ts ≡ us ++ ls) × (l.negations ≡ 0)
PlaceAt AtFactor l outer ts = (us : List Token) × (ls : List Token) × OpenAt outer us × LevelAt l ls × (ts ≡ us ++ ls)
PlaceAt (AtOperator field) l outer ts = (us : List Token) × (ls : List Token) × OpenAt outer us × LevelAt l ls × (ts ≡ us ++ (ls ++ field_token field ∷ []))
PlaceAt (AtValue field cmp) l outer ts = (us : List Token) × (ls : List Token) × OpenAt outer us × LevelAt l ls × (op : Token) × (cmp_of op ≡ Some cmp) × (ts ≡ us ++ (ls ++ field_token field ∷ op ∷ []))
PlaceAt AtWord l outer ts = (us : List Token) × (ls : List Token) × OpenAt outer us × LevelAt l ls × (ts ≡ us ++ (ls ++ codes "keyword" ∷ []))

abbrev pub StateAt : State → List Token → Type 0
StateAt s ts = PlaceAt s.place s.level s.outer ts

start-at : StateAt start []
start-at = ([], [], refl, record { ors = []; ands = []; or_at = refl; and_at = refl; whole = refl }, refl)

-- the state after a factor in open brackets
factor-at : (l : Level) (outer : List Level) (us ls xs ts : List Token) (t : Tree) → OpenAt outer us → LevelAt l ls → IsFactor xs t → ts ≡ us ++ (ls ++ xs) → StateAt (after_factor l outer t) ts
unfolding after_factor
factor-at l outer us ls xs ts t o h f e = (us, ls ++ xs, o, level-factor l ls xs t h f, e, refl)

-- one more token after two lists
pub push-two : (us ls ts : List Token) (x : Token) → ts ≡ us ++ ls → ts ++ x ∷ [] ≡ us ++ (ls ++ x ∷ [])
push-two us ls ts x e = rw e (append_assoc us ls (x ∷ []))

pub push-three : (us ls ms ts : List Token) (x : Token) → ts ≡ us ++ (ls ++ ms) → ts ++ x ∷ [] ≡ us ++ (ls ++ (ms ++ x ∷ []))
push-three us ls ms ts x e = rw e (simp append_assoc)

abbrev pub LeadsTo : Result State Refusal → List Token → Type 0
LeadsTo (Ok s) ts = StateAt s ts
LeadsTo (Err e) ts = Unit {0}

nots-push : (n : ℕ) → nots n ++ codes "not" ∷ [] ≡ nots (n + 1)
nots-push zero = refl
nots-push (suc n) = ap (λ ts. codes "not" ∷ ts) (nots-push n) ∙ rw (add-one, add-one) refl

level-not : (l : Level) (ls : List Token) → LevelAt l ls → LevelAt (level_with l.either l.both (l.negations + 1)) (ls ++ codes "not" ∷ [])
level-not l ls h = record {
  ors = h.ors;
  ands = h.ands;
  or_at = h.or_at;
  and_at = h.and_at;
  whole = push-three h.ors h.ands (nots l.negations) ls (codes "not") h.whole ∙ ap (λ ns. h.ors ++ (h.ands ++ ns)) (nots-push l.negations);
}

fresh-at : LevelAt fresh []
fresh-at = record { ors = []; ands = []; or_at = refl; and_at = refl; whole = refl }

factor-step : (l : Level) (outer : List Level) (us ls ts : List Token) (x : Token) → OpenAt outer us → LevelAt l ls → ts ≡ us ++ ls → (s : Symbol) → IsSpelled s x → LeadsTo (at_factor l outer s) (ts ++ x ∷ [])
unfolding at_factor
factor-step l outer us ls ts x o h e Open p = (ts ++ x ∷ [], [], (us, ls, o, h, push-two us ls ts x e ∙ ap (λ y. us ++ (ls ++ y ∷ [])) p), fresh-at, sym (append-nil (ts ++ x ∷ [])))
factor-step l outer us ls ts x o h e NotWord p = (us, ls ++ codes "not" ∷ [], o, level-not l ls h, push-two us ls ts x e ∙ ap (λ y. us ++ (ls ++ y ∷ [])) p)
factor-step l outer us ls ts x o h e AllWord p = factor-at l outer us ls (codes "all" ∷ []) _ All o h (test all) (push-two us ls ts x e ∙ ap (λ y. us ++ (ls ++ y ∷ [])) p)
factor-step l outer us ls ts x o h e NoneWord p = factor-at l outer us ls (codes "none" ∷ []) _ Nothing o h (test none) (push-two us ls ts x e ∙ ap (λ y. us ++ (ls ++ y ∷ [])) p)
factor-step l outer us ls ts x o h e RatingWord p = (us, ls, o, h, push-two us ls ts x e ∙ ap (λ y. us ++ (ls ++ y ∷ [])) p)
factor-step l outer us ls ts x o h e DayWord p = (us, ls, o, h, push-two us ls ts x e ∙ ap (λ y. us ++ (ls ++ y ∷ [])) p)
factor-step l outer us ls ts x o h e KeywordWord p = (us, ls, o, h, push-two us ls ts x e ∙ ap (λ y. us ++ (ls ++ y ∷ [])) p)
factor-step l outer us ls ts x o h e Close p = tt
factor-step l outer us ls ts x o h e OrWord p = tt
factor-step l outer us ls ts x o h e AndWord p = tt
factor-step l outer us ls ts x o h e Other p = tt

and-level : (e : Option Tree) (t : Tree) (ls : List Token) → TermAt e t ls → LevelAt (level_with e (Some t) 0) (ls ++ codes "and" ∷ [])
and-level e t ls h = record {
  ors = h.ors;
  ands = h.last ++ codes "and" ∷ [];
  or_at = h.or_at;
  and_at = (h.last, h.is_term, refl);
  whole = push-two h.ors h.last ls (codes "and") h.whole ∙ ap (λ ys. h.ors ++ ys) (sym (append-nil (h.last ++ codes "and" ∷ [])));
}

or-level : (e : Option Tree) (t : Tree) (ls : List Token) → TermAt e t ls → LevelAt (level_with (Some (joined Either e t)) None 0) (ls ++ codes "or" ∷ [])
or-level e t ls h = record {
  ors = ls ++ codes "or" ∷ [];
  ands = [];
  or_at = (ls, expr-from_term e t ls h, refl);
  and_at = refl;
  whole = sym (append-nil (ls ++ codes "or" ∷ []));
}

close-step : (l : Level) (outer : List Level) (us ls ts : List Token) (t : Tree) → OpenAt outer us → TermAt l.either t ls → ts ≡ us ++ ls → LeadsTo (closed (joined Either l.either t) outer) (ts ++ codes ")" ∷ [])
close-step l [] us ls ts t o h e = tt
close-step l (m ∷ outer) us ls ts t o h e =
    factor-at m outer o.0 o.1 (codes "(" ∷ (ls ++ codes ")" ∷ [])) _ _ o.2 o.3 (brackets (expr-from_term l.either t ls h))
    (ap (λ ys. ys ++ codes ")" ∷ []) e ∙ sym (regroup us o.0 o.1 ls (codes "(") (codes ")") o.4))

term-step : (l : Level) (outer : List Level) (us ls ts : List Token) (t : Tree) (x : Token) → OpenAt outer us → TermAt l.either t ls → ts ≡ us ++ ls → (s : Symbol) → IsSpelled s x → LeadsTo (after_term l outer t s) (ts ++ x ∷ [])
unfolding after_term
term-step l outer us ls ts t x o h e AndWord p = (us, ls ++ codes "and" ∷ [], o, and-level l.either t ls h, push-two us ls ts x e ∙ ap (λ y. us ++ (ls ++ y ∷ [])) p)
term-step l outer us ls ts t x o h e OrWord p = (us, ls ++ codes "or" ∷ [], o, or-level l.either t ls h, push-two us ls ts x e ∙ ap (λ y. us ++ (ls ++ y ∷ [])) p)
term-step l outer us ls ts t x o h e Close p = subst (λ (y : Token). LeadsTo (closed (joined Either l.either t) outer) (ts ++ y ∷ [])) (sym p) (close-step l outer us ls ts t o h e)
term-step l outer us ls ts t x o h e Open p = tt
term-step l outer us ls ts t x o h e NotWord p = tt
term-step l outer us ls ts t x o h e AllWord p = tt
term-step l outer us ls ts t x o h e NoneWord p = tt
term-step l outer us ls ts t x o h e RatingWord p = tt
term-step l outer us ls ts t x o h e DayWord p = tt
term-step l outer us ls ts t x o h e KeywordWord p = tt
term-step l outer us ls ts t x o h e Other p = tt

operator-step : (l : Level) (outer : List Level) (us ls ts : List Token) (x : Token) (field : Field) → OpenAt outer us → LevelAt l ls → ts ≡ us ++ (ls ++ field_token field ∷ []) → (c : Option Cmp) → cmp_of x ≡ c → LeadsTo (at_operator l outer field c) (ts ++ x ∷ [])
operator-step l outer us ls ts x field o h e None p = tt
operator-step l outer us ls ts x field o h e (Some c) p = (us, ls, o, h, x, p, push-three us ls (field_token field ∷ []) ts x e)

rating-step : (l : Level) (outer : List Level) (us ls ts : List Token) (op x : Token) (cmp : Cmp) → OpenAt outer us → LevelAt l ls → cmp_of op ≡ Some cmp → ts ≡ us ++ (ls ++ codes "rating" ∷ op ∷ []) → (r : Option ℕ) → rating_of_text x ≡ r → LeadsTo (test_of l outer (Rate cmp) r) (ts ++ x ∷ [])
rating-step l outer us ls ts op x cmp o h c e None p = tt
rating-step l outer us ls ts op x cmp o h c e (Some n) p = factor-at l outer us ls (codes "rating" ∷ op ∷ x ∷ []) _ (Rate cmp n) o h (test (rating c p)) (push-three us ls (codes "rating" ∷ op ∷ []) ts x e)

day-step : (l : Level) (outer : List Level) (us ls ts : List Token) (op x : Token) (cmp : Cmp) → OpenAt outer us → LevelAt l ls → cmp_of op ≡ Some cmp → ts ≡ us ++ (ls ++ codes "day" ∷ op ∷ []) → (r : Option ℤ) → day_of_text x ≡ r → LeadsTo (test_of l outer (On cmp) r) (ts ++ x ∷ [])
day-step l outer us ls ts op x cmp o h c e None p = tt
day-step l outer us ls ts op x cmp o h c e (Some n) p = factor-at l outer us ls (codes "day" ∷ op ∷ x ∷ []) _ (On cmp n) o h (test (day c p)) (push-three us ls (codes "day" ∷ op ∷ []) ts x e)

word-step : (l : Level) (outer : List Level) (us ls ts : List Token) (x : Token) → OpenAt outer us → LevelAt l ls → ts ≡ us ++ (ls ++ codes "keyword" ∷ []) → (b : Bool) → is_bracket x ≡ b → (r : _) → word_of_text x ≡ r → LeadsTo (cond b (Err Refusal.Unexpected) (at_word l outer r)) (ts ++ x ∷ [])
word-step l outer us ls ts x o h e true q r p = tt
word-step l outer us ls ts x o h e false q (Err f) p = tt
word-step l outer us ls ts x o h e false q (Ok w) p = factor-at l outer us ls (codes "keyword" ∷ x ∷ []) _ (Keyword w) o h (test (keyword q p)) (push-three us ls (codes "keyword" ∷ []) ts x e)

place-step : (p : Place) (l : Level) (outer : List Level) (ts : List Token) (x : Token) → PlaceAt p l outer ts → LeadsTo (step_at p l outer x) (ts ++ x ∷ [])
place-step AtFactor l outer ts x h = factor-step l outer h.0 h.1 ts x h.2 h.3 h.4 (symbol_of x) (symbol_spelled x)
place-step (AtOperator field) l outer ts x h = operator-step l outer h.0 h.1 ts x field h.2 h.3 h.4 (cmp_of x) refl
place-step (AtValue RatingField cmp) l outer ts x h = rating-step l outer h.0 h.1 ts h.4 x cmp h.2 h.3 h.5 h.6 (rating_of_text x) refl
place-step (AtValue DayField cmp) l outer ts x h = day-step l outer h.0 h.1 ts h.4 x cmp h.2 h.3 h.5 h.6 (day_of_text x) refl
place-step AtWord l outer ts x h = word-step l outer h.0 h.1 ts x h.2 h.3 h.4 (is_bracket x) refl (word_of_text x) refl
place-step (After t) l outer ts x h = term-step l outer h.0 h.1 ts t x h.2 h.3 h.4 (symbol_of x) (symbol_spelled x)

-- a run leads from one state to the next
run-leads : (s : State) (ts us : List Token) → StateAt s ts → LeadsTo (run s us) (ts ++ us)
run-leads s ts [] h = subst (λ (ys : List Token). StateAt s ys) (sym (append-nil ts)) h
run-leads s ts (x ∷ us) h = go (step s x) (place-step s.place s.level s.outer ts x h) (λ r. run-leads r (ts ++ x ∷ []) us)
  where
    q : (ts ++ x ∷ []) ++ us ≡ ts ++ x ∷ us
    q = append_assoc ts (x ∷ []) us

    go : (r : Result State Refusal) → LeadsTo r (ts ++ x ∷ []) → ((r : State) → StateAt r (ts ++ x ∷ []) → LeadsTo (run r us) ((ts ++ x ∷ []) ++ us)) → LeadsTo (go_on (λ r. run r us) r) (ts ++ x ∷ us)
    go (Err e) k more = tt
    go (Ok r) k more = subst (λ (ys : List Token). LeadsTo (run r us) ys) q (more r k)

-- the state after a run's tokens
pub state-at : (ts : List Token) (s : State) → run start ts ≡ Ok s → StateAt s ts
state-at ts s e = subst (λ (r : Result State Refusal). LeadsTo r ts) e (run-leads start [] ts start-at)

-- what the reader reads is in the grammar
pub read-expr : (ts : List Token) (s : State) (t : Tree) → run start ts ≡ Ok s → finish s ≡ Some t → IsExpr ts t
read-expr ts s t e f = go s.place s.level s.outer (state-at ts s e) f
  where
    go : (p : Place) (l : Level) (outer : List Level) → PlaceAt p l outer ts → finished p l outer ≡ Some t → IsExpr ts t
    go (After u) l [] h f =
        let P : List Token → Tree → Type 0 = IsExpr in
        let q : ts ≡ h.1 = h.4 ∙ ap (λ ys. ys ++ h.1) h.2 in
        let k : joined Either l.either u ≡ t = cc in
        subst (λ (ys : List Token). IsExpr ys t) (sym q) (subst (λ (v : Tree). IsExpr h.1 v) k (expr-from_term l.either u h.1 h.3))
    go (After u) l (m ∷ outer) h f = cc
    go AtFactor l outer h f = cc
    go (AtOperator field) l outer h f = cc
    go (AtValue field cmp) l outer h f = cc
    go AtWord l outer h f = cc
