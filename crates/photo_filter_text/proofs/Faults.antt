-- The first token at which no filter goes on.
use Rattle.std.proofs.Common.{◌≡◌, ◌⊎◌, inl, inr, ℕ, suc, zero, ◌+◌, ◌<◌, ◌≤◌, Bool, true, false, List, [], ◌∷◌, ◌++◌, length, take, drop, get_or, Option, Some, None, Result, Ok, Err, refl, sym, ap, subst, ◌∙◌, cond, add-one, append_assoc, append-nil, length-append, arith}
use Rattle.std.specs.Prelude.{codes}
use Rattle.photo_record.specs.Reading.{rating_of_text, day_of_text, word_of_text}
use Rattle.std.proofs.lemmas.Bool.{false≢true}
use Rattle.photo_filter_text.specs.declared.tree.Cmp.{Cmp}
use Rattle.photo_filter_text.specs.declared.tree.Cmp.TheVariants.{AtLeast}
use Rattle.photo_filter_text.specs.declared.reader.Refusal.{Refusal}
use Rattle.photo_filter_text.specs.declared.reader.Refusal.TheVariants.{Unexpected, BadWord}
use Rattle.photo_filter_text.specs.declared.reader.Field.{Field}
use Rattle.photo_filter_text.specs.declared.reader.Field.TheVariants.{RatingField, DayField}
use Rattle.photo_filter_text.specs.declared.symbol.Symbol.{Symbol}
use Rattle.photo_filter_text.specs.declared.symbol.Symbol.TheVariants.{Open, Close, OrWord, AndWord, NotWord, AllWord, NoneWord, RatingWord, DayWord, KeywordWord, Other}
use Rattle.photo_filter_text.specs.Tree.{Tree, All, Rate, On, Keyword, Either}
use Rattle.photo_filter_text.specs.Tokens.{Token}
use Rattle.photo_filter_text.specs.Grammar.{all, rating, day, keyword, IsFactor, brackets, test, factor, term, cmp_of, is_bracket}
use Rattle.photo_filter_text.specs.Fronts.{Begins, StopsAt, WantsWord, IsWordAt}
use Rattle.photo_filter_text.specs.Steps.{Place, AtFactor, AtOperator, AtValue, AtWord, After, Level, State, state_with, start, joined, at_factor, after_term, closed, test_of, at_operator, at_word, step_at, step, symbol_of, go_on, run}
use Rattle.photo_record.specs.declared.fault.WordFault.{WordFault}
use Rattle.photo_filter_text.proofs.Samples.{some-date, some-word}
use Rattle.photo_filter_text.proofs.Machine.{run-append, run-over, go_on-ok}
use Rattle.photo_filter_text.proofs.Complete.{expr-read, tree_read}
use Rattle.photo_filter_text.proofs.Sound.{OpenAt, LevelAt, PlaceAt, nots, level-factor, close, begins-front, state-at}

no-date : day_of_text (codes "(") ≡ None
unfolding day_of_text
no-date = refl

-- the tokens of a level, followed by the beginning of a factor, begin a filter
begins-with : (l : Level) (outer : List Level) (us ls ms more ts : List Token) (t : Tree) → OpenAt outer us → LevelAt l ls → IsFactor (ms ++ more) t → ts ≡ us ++ (ls ++ ms) → Begins ts
begins-with l outer us ls ms more ts t o h f e =
    let b = close outer us (ls ++ (ms ++ more)) _ _ o (level-factor l ls (ms ++ more) t h f) in
    let q : us ++ (ls ++ (ms ++ more)) ≡ ts ++ more = rw e (simp append_assoc) in
    begins-front ts more (subst Begins q b)

place-begins : (p : Place) (l : Level) (outer : List Level) (ts : List Token) → PlaceAt p l outer ts → Begins ts
place-begins (After t) l outer ts h = subst Begins (sym h.4) (close outer h.0 h.1 l.either t h.2 h.3)
place-begins AtFactor l outer ts h = begins-with l outer h.0 h.1 [] (codes "all" ∷ []) ts All h.2 h.3 (test all) (h.4 ∙ ap (λ ys. h.0 ++ ys) (sym (append-nil h.1)))
place-begins (AtOperator RatingField) l outer ts h = begins-with l outer h.0 h.1 (codes "rating" ∷ []) (codes ">=" ∷ codes "0" ∷ []) ts (Rate AtLeast 0) h.2 h.3 (test (rating refl refl)) h.4
place-begins (AtOperator DayField) l outer ts h = begins-with l outer h.0 h.1 (codes "day" ∷ []) (codes ">=" ∷ codes "2024-01-01" ∷ []) ts (On AtLeast some-date.0) h.2 h.3 (test (day refl some-date.1)) h.4
place-begins (AtValue RatingField cmp) l outer ts h = begins-with l outer h.0 h.1 (codes "rating" ∷ h.4 ∷ []) (codes "0" ∷ []) ts (Rate cmp 0) h.2 h.3 (test (rating h.5 refl)) h.6
place-begins (AtValue DayField cmp) l outer ts h = begins-with l outer h.0 h.1 (codes "day" ∷ h.4 ∷ []) (codes "2024-01-01" ∷ []) ts (On cmp some-date.0) h.2 h.3 (test (day h.5 some-date.1)) h.6
place-begins AtWord l outer ts h = begins-with l outer h.0 h.1 (codes "keyword" ∷ []) (codes "x" ∷ []) ts (Keyword some-word.0) h.2 h.3 (test (keyword refl some-word.1)) h.4

-- tokens that the reader takes begin a filter
pub run-begins : (ts : List Token) (s : State) → run start ts ≡ Ok s → Begins ts
run-begins ts s e = place-begins s.place s.level s.outer ts (state-at ts s e)

-- a word must come where the reader waits for one
pub word-wanted : (ts : List Token) (s : State) → run start ts ≡ Ok s → s.place ≡ AtWord → WantsWord ts
word-wanted ts s e w = go s.place s.level s.outer (state-at ts s e) w
  where
    go : (p : Place) (l : Level) (outer : List Level) → PlaceAt p l outer ts → p ≡ AtWord → WantsWord ts
    go AtWord l outer h q = (
      h.0 ++ h.1,
      h.4 ∙ sym (append_assoc h.0 h.1 (codes "keyword" ∷ [])),
      begins-with l outer h.0 h.1 (codes "(" ∷ []) (codes "all" ∷ codes ")" ∷ []) ((h.0 ++ h.1) ++ codes "(" ∷ []) All h.2 h.3 (brackets (term (factor (test all)))) (append_assoc h.0 h.1 (codes "(" ∷ [])),
    )
    go AtFactor l outer h q = cc
    go (AtOperator field) l outer h q = cc
    go (AtValue field cmp) l outer h q = cc
    go (After t) l outer h q = cc

-- a bracket opens only where a factor may begin
bracket-place : (p : Place) (l : Level) (outer : List Level) (more : List Token) (tree : Tree) → tree_read (go_on (λ r. run r more) (step_at p l outer (codes "("))) ≡ Some tree → p ≡ AtFactor
unfolding symbol_of after_term
bracket-place AtFactor l outer more tree h = refl
bracket-place (AtOperator field) l outer more tree h = cc
bracket-place (AtValue RatingField cmp) l outer more tree h = cc
bracket-place (AtValue DayField cmp) l outer more tree h =
    let n = ap (λ o. tree_read (go_on (λ r. run r more) (test_of l outer (On cmp) o))) no-date in cc
bracket-place AtWord l outer more tree h = cc
bracket-place (After t) l outer more tree h = cc

-- `keyword` is taken where a factor may begin
keyword-taken : (p : Place) (l : Level) (outer : List Level) → p ≡ AtFactor → step_at p l outer (codes "keyword") ≡ Ok (state_with AtWord l outer)
unfolding symbol_of at_factor
keyword-taken AtFactor l outer h = refl
keyword-taken (AtOperator field) l outer h = cc
keyword-taken (AtValue field cmp) l outer h = cc
keyword-taken AtWord l outer h = cc
keyword-taken (After t) l outer h = cc

word-run : (ts : List Token) → WantsWord ts → (l : Level) × (outer : List Level) × (run start ts ≡ Ok (state_with AtWord l outer))
word-run ts w =
    let b = w.0 in
    let more = w.2.0 in
    let tree = w.2.1 in
    let h : tree_read (run start (b ++ codes "(" ∷ more)) ≡ Some tree = ap (λ ys. tree_read (run start ys)) (sym (append_assoc b (codes "(" ∷ []) more)) ∙ expr-read w.2.2 in
    go b more tree (run start b) (ap (run start) w.1 ∙ run-append b (codes "keyword" ∷ []) start) (ap tree_read (sym (run-append b (codes "(" ∷ more) start)) ∙ h)
  where
    go : (b more : List Token) (tree : Tree) (r : Result State Refusal) → run start ts ≡ go_on (λ q. run q (codes "keyword" ∷ [])) r → tree_read (go_on (λ q. run q (codes "(" ∷ more)) r) ≡ Some tree → (l : Level) × (outer : List Level) × (run start ts ≡ Ok (state_with AtWord l outer))
    go b more tree (Err x) f h = cc
    go b more tree (Ok q) f h = (
      q.level,
      q.outer,
      f ∙ sym (go_on-ok (step q (codes "keyword"))) ∙ keyword-taken q.place q.level q.outer (bracket-place q.place q.level q.outer more tree h),
    )

pub wants-word-place : (ts : List Token) (s : State) → run start ts ≡ Ok s → WantsWord ts → s.place ≡ AtWord
wants-word-place ts s e w = let r = word-run ts w in ap place_in (sym e ∙ r.2)
  where
    place_in : Result State Refusal → Place
    place_in (Ok q) = q.place
    place_in (Err f) = AtWord

pub word-begins : (ts : List Token) → WantsWord ts → Begins ts
word-begins ts w = let r = word-run ts w in run-begins ts _ r.2

-- The tokens, one at a time
pub record NextIs (ts : List Token) (n : ℕ) (x : Token) (rest : List Token) : Type 0 where
  pub within : n < length ts
  pub front : take (n + 1) ts ≡ take n ts ++ x ∷ []
  pub behind : drop (n + 1) ts ≡ rest
  pub there : get_or ts n [] ≡ x

pub next-is : (ts : List Token) (n : ℕ) (x : Token) (rest : List Token) → drop n ts ≡ x ∷ rest → NextIs ts n x rest
next-is [] zero x rest h = cc
next-is [] (suc n) x rest h = cc
next-is (t ∷ ts) zero x rest h =
    let e : t ≡ x = cc in
    let f : ts ≡ rest = cc in
    record { within = omega arith; front = ap (λ y. y ∷ []) e; behind = f; there = e }
next-is (t ∷ ts) (suc n) x rest h =
    let r = next-is ts n x rest h in
    record {
      within = omega (arith, r.within);
      front = rw add-one (ap (λ ys. t ∷ ys) (rw add-one at r.front));
      behind = rw add-one (rw add-one at r.behind);
      there = r.there;
    }

-- the state after one more token
pub run-next : (ts : List Token) (n : ℕ) (x : Token) (rest : List Token) (s : State) → run start (take n ts) ≡ Ok s → drop n ts ≡ x ∷ rest → run start (take (n + 1) ts) ≡ step s x
run-next ts n x rest s e h =
    let r = next-is ts n x rest h in
    ap (run start) r.front ∙ run-over (take n ts) (x ∷ []) start s e ∙ sym (go_on-ok (step s x))

refused-begins : (ts : List Token) (f : Refusal) → run start ts ≡ Err f → Begins ts → ⊥
refused-begins ts f e b =
    let p = expr-read b.2 in
    let q = ap tree_read (run-append ts b.0 start ∙ ap (go_on (λ r. run r b.0)) e) in
    cc

pub stops-at : (ts : List Token) (n : ℕ) (x : Token) (rest : List Token) (s : State) (f : Refusal) → run start (take n ts) ≡ Ok s → drop n ts ≡ x ∷ rest → step s x ≡ Err f → StopsAt ts (n + 1)
stops-at ts n x rest s f e h r = record {
  before = n;
  number = refl;
  within = (next-is ts n x rest h).within;
  goes_on = run-begins (take n ts) s e;
  stops = refused-begins (take (n + 1) ts) f (run-next ts n x rest s e h ∙ r);
}

-- which refusals a place can give
factor-refuses : (l : Level) (outer : List Level) (s : Symbol) (f : Refusal) → at_factor l outer s ≡ Err f → f ≡ Unexpected
unfolding at_factor
factor-refuses l outer Open f h = cc
factor-refuses l outer NotWord f h = cc
factor-refuses l outer AllWord f h = cc
factor-refuses l outer NoneWord f h = cc
factor-refuses l outer RatingWord f h = cc
factor-refuses l outer DayWord f h = cc
factor-refuses l outer KeywordWord f h = cc
factor-refuses l outer Close f h = cc
factor-refuses l outer OrWord f h = cc
factor-refuses l outer AndWord f h = cc
factor-refuses l outer Other f h = cc

closed-refuses : (u : Tree) (ls : List Level) (f : Refusal) → closed u ls ≡ Err f → f ≡ Unexpected
closed-refuses u [] f h = cc
closed-refuses u (m ∷ ls) f h = cc

term-refuses : (l : Level) (outer : List Level) (t : Tree) (s : Symbol) (f : Refusal) → after_term l outer t s ≡ Err f → f ≡ Unexpected
unfolding after_term
term-refuses l outer t AndWord f h = cc
term-refuses l outer t OrWord f h = cc
term-refuses l outer t Open f h = cc
term-refuses l outer t NotWord f h = cc
term-refuses l outer t AllWord f h = cc
term-refuses l outer t NoneWord f h = cc
term-refuses l outer t RatingWord f h = cc
term-refuses l outer t DayWord f h = cc
term-refuses l outer t KeywordWord f h = cc
term-refuses l outer t Other f h = cc
term-refuses l outer t Close f h = closed-refuses (joined Either l.either t) outer f h

operator-refuses : (l : Level) (outer : List Level) (field : Field) (c : Option Cmp) (f : Refusal) → at_operator l outer field c ≡ Err f → f ≡ Unexpected
operator-refuses l outer field None f h = cc
operator-refuses l outer field (Some c) f h = cc

test-refuses : {A : Type 0} → (l : Level) (outer : List Level) (g : A → Tree) (r : Option A) (f : Refusal) → test_of l outer g r ≡ Err f → f ≡ Unexpected
test-refuses l outer g None f h = cc
test-refuses l outer g (Some x) f h = cc

-- a refusal is `Unexpected`, or `BadWord` in the place of a word
pub refused-as : (p : Place) (l : Level) (outer : List Level) (x : Token) (f : Refusal) → step_at p l outer x ≡ Err f → (f ≡ Unexpected) ⊎ ((f ≡ BadWord) × (p ≡ AtWord) × (is_bracket x ≡ false))
refused-as AtFactor l outer x f e = inl (factor-refuses l outer (symbol_of x) f e)
refused-as (AtOperator field) l outer x f e = inl (operator-refuses l outer field (cmp_of x) f e)
refused-as (AtValue RatingField cmp) l outer x f e = inl (test-refuses l outer (Rate cmp) (rating_of_text x) f e)
refused-as (AtValue DayField cmp) l outer x f e = inl (test-refuses l outer (On cmp) (day_of_text x) f e)
refused-as AtWord l outer x f e = go (is_bracket x) (word_of_text x) e
  where
    go : (b : Bool) (r : Result (List ℕ) WordFault) → cond b (Err Unexpected) (at_word l outer r) ≡ Err f → (f ≡ Unexpected) ⊎ ((f ≡ BadWord) × (AtWord ≡ AtWord) × (b ≡ false))
    go true r h = let unexpected : f ≡ Unexpected = cc in inl unexpected
    go false (Ok w) h = let never : ⊥ = cc in absurd never
    go false (Err w) h = let bad : f ≡ BadWord = cc in inr (bad, refl, refl)
refused-as (After t) l outer x f e = inl (term-refuses l outer t (symbol_of x) f e)

bad-word-place : (p : Place) (l : Level) (outer : List Level) (x : Token) → step_at p l outer x ≡ Err BadWord → (p ≡ AtWord) × (is_bracket x ≡ false)
bad-word-place p l outer x e =
    elim (refused-as p l outer x BadWord e) [
      | inl unexpected ↦ let never : ⊥ = cc in absurd never
      | inr bad ↦ (bad.1, bad.2)
    ]

unexpected-place : (p : Place) (l : Level) (outer : List Level) (x : Token) → step_at p l outer x ≡ Err Unexpected → p ≡ AtWord → is_bracket x ≡ true
unexpected-place AtWord l outer x e q = go (is_bracket x) (word_of_text x) e
  where
    go : (b : Bool) (r : Result (List ℕ) WordFault) → cond b (Err Unexpected) (at_word l outer r) ≡ Err Unexpected → b ≡ true
    go true r h = refl
    go false (Ok w) h = cc
    go false (Err f) h = cc
unexpected-place AtFactor l outer x e q = cc
unexpected-place (AtOperator field) l outer x e q = cc
unexpected-place (AtValue field cmp) l outer x e q = cc
unexpected-place (After t) l outer x e q = cc

pub bad-word-at : (ts : List Token) (n : ℕ) (x : Token) (rest : List Token) (s : State) → run start (take n ts) ≡ Ok s → drop n ts ≡ x ∷ rest → step s x ≡ Err BadWord → IsWordAt ts (n + 1)
bad-word-at ts n x rest s e h r =
    let p = bad-word-place s.place s.level s.outer x r in
    (n, refl, word-wanted (take n ts) s e p.0, ap is_bracket (next-is ts n x rest h).there ∙ p.1)

pub no-word-at : (ts : List Token) (n : ℕ) (x : Token) (rest : List Token) (s : State) → run start (take n ts) ≡ Ok s → drop n ts ≡ x ∷ rest → step s x ≡ Err Unexpected → IsWordAt ts (n + 1) → ⊥
no-word-at ts n x rest s e h r w =
    let q : w.0 ≡ n = omega (arith, w.1) in
    let wants : WantsWord (take n ts) = subst (λ (m : ℕ). WantsWord (take m ts)) q w.2 in
    let p = wants-word-place (take n ts) s e wants in
    let b = unexpected-place s.place s.level s.outer x r p in
    let c : is_bracket x ≡ false = sym (ap is_bracket (next-is ts n x rest h).there) ∙ subst (λ (m : ℕ). is_bracket (get_or ts m []) ≡ false) q w.3 in
    false≢true (sym c ∙ b)

-- there are at most as many `not` as tokens
length-nots : (n : ℕ) → length (nots n) ≡ n
length-nots zero = refl
length-nots (suc n) = ap suc (length-nots n)

length-three : (us ls ms ts : List Token) → ts ≡ us ++ (ls ++ ms) → (length ls ≤ length ts)
length-three us ls ms ts e = omega (arith, ap length e, length-append us (ls ++ ms), length-append ls ms)

level-short : (l : Level) (ls : List Token) → LevelAt l ls → l.negations ≤ length ls
level-short l ls h = omega (arith, ap length h.whole, length-append h.ors (h.ands ++ nots l.negations), length-append h.ands (nots l.negations), length-nots l.negations)

pub few-negations : (ts : List Token) (s : State) → run start ts ≡ Ok s → s.level.negations ≤ length ts
few-negations ts s e = go s.place s.level s.outer (state-at ts s e)
  where
    go : (p : Place) (l : Level) (outer : List Level) → PlaceAt p l outer ts → l.negations ≤ length ts
    go (After t) l outer h = omega (arith, h.5)
    go AtFactor l outer h = let a = level-short l h.1 h.3 in let b = length-three h.0 h.1 [] ts (h.4 ∙ ap (λ ys. h.0 ++ ys) (sym (append-nil h.1))) in omega (arith, a, b)
    go (AtOperator field) l outer h = let a = level-short l h.1 h.3 in let b = length-three h.0 h.1 _ ts h.4 in omega (arith, a, b)
    go (AtValue field cmp) l outer h = let a = level-short l h.1 h.3 in let b = length-three h.0 h.1 _ ts h.6 in omega (arith, a, b)
    go AtWord l outer h = let a = level-short l h.1 h.3 in let b = length-three h.0 h.1 _ ts h.4 in omega (arith, a, b)
