-- The reader reads every filter of the grammar, and gives its tree.
use Rattle.std.proofs.Common.{◌≡◌, ℕ, suc, zero, ◌+◌, List, [], ◌∷◌, Option, Some, None, Result, Ok, Err, refl, sym, ap, ◌∙◌, cond, add-one}
use Rattle.std.specs.Prelude.{codes}
use Rattle.photo_record.specs.Reading.{word_of_text}
use Rattle.photo_filter_text.specs.declared.reader.Refusal.{Refusal}
use Rattle.photo_filter_text.specs.declared.reader.Field.TheVariants.{RatingField, DayField}
use Rattle.photo_filter_text.specs.Tree.{Tree, Rate, On, Not, Both, Either}
use Rattle.photo_filter_text.specs.Tokens.{Token}
use Rattle.photo_filter_text.specs.Grammar.{IsTest, all, none, rating, day, keyword, IsFactor, negation, brackets, test, IsTerm, factor, conjunction, IsExpr, term, disjunction}
use Rattle.photo_filter_text.specs.Steps.{AtFactor, After, Level, State, level_with, state_with, fresh, start, joined, negated, after_factor, at_factor, after_term, test_of, at_operator, at_word, finish, symbol_of, go_on, run}
use Rattle.photo_filter_text.proofs.Machine.{run-over}

negated-not : (n : ℕ) (t : Tree) → negated n (Not t) ≡ Not (negated n t)
negated-not zero t = refl
negated-not (suc n) t = ap Not (negated-not n t)

negated-more : (n : ℕ) (t : Tree) → negated (n + 1) t ≡ negated n (Not t)
negated-more n t = ap (λ m. negated m t) (add-one n) ∙ sym (negated-not n t)

after_factor-not : (l : Level) (outer : List Level) (t : Tree) → after_factor (level_with l.either l.both (l.negations + 1)) outer t ≡ after_factor l outer (Not t)
unfolding after_factor
after_factor-not l outer t =
    ap (λ u. state_with (After (joined Both l.both u)) (level_with l.either None 0) outer) (negated-more l.negations t)

test-run : {ts : List Token} {t : Tree} → IsTest ts t → (l : Level) (outer : List Level) → run (state_with AtFactor l outer) ts ≡ Ok (after_factor l outer t)
unfolding symbol_of at_factor
test-run all l outer = refl
test-run none l outer = refl
test-run (rating {op = op} {r = r} {cmp = cmp} p q) l outer =
    ap (λ o. go_on (λ s. run s (r ∷ [])) (at_operator l outer RatingField o)) p
    ∙ ap (λ o. go_on (λ s. run s []) (test_of l outer (Rate cmp) o)) q
test-run (day {op = op} {date = d} {cmp = cmp} p q) l outer =
    ap (λ o. go_on (λ s. run s (d ∷ [])) (at_operator l outer DayField o)) p
    ∙ ap (λ o. go_on (λ s. run s []) (test_of l outer (On cmp) o)) q
test-run (keyword {w = w} p q) l outer =
    ap (λ b. go_on (λ s. run s []) (cond b (Err Refusal.Unexpected) (at_word l outer (word_of_text w)))) p
    ∙ ap (λ o. go_on (λ s. run s []) (at_word l outer o)) q

pub record ExprRun (ts : List Token) (t : Tree) (outer : List Level) : Type 0 where
  pub left : Option Tree
  pub last : Tree
  pub runs : run (state_with AtFactor fresh outer) ts ≡ Ok (state_with (After last) (level_with left None 0) outer)
  pub whole : joined Either left last ≡ t

mutual
  unfolding symbol_of at_factor after_term after_factor

  pub factor-run : {ts : List Token} {t : Tree} → IsFactor ts t → (l : Level) (outer : List Level) → run (state_with AtFactor l outer) ts ≡ Ok (after_factor l outer t)
  factor-run (negation {ts = ts} {t = t} f) l outer =
      factor-run f (level_with l.either l.both (l.negations + 1)) outer ∙ ap Ok (after_factor-not l outer t)
  factor-run (brackets {ts = ts} {t = t} e) l outer =
      let r = expr-run e (l ∷ outer) in
      run-over ts (codes ")" ∷ []) (state_with AtFactor fresh (l ∷ outer)) _ r.runs ∙ ap (λ u. Ok (after_factor l outer u)) r.whole
  factor-run (test f) l outer = test-run f l outer

  pub term-run : {ts : List Token} {t : Tree} → IsTerm ts t → (e : Option Tree) (outer : List Level) → run (state_with AtFactor (level_with e None 0) outer) ts ≡ Ok (state_with (After t) (level_with e None 0) outer)
  term-run (factor f) e outer = factor-run f (level_with e None 0) outer
  term-run (conjunction {xs = xs} {ys = ys} {a = a} {b = b} x y) e outer =
      run-over xs (codes "and" ∷ ys) _ _ (term-run x e outer) ∙ factor-run y (level_with e (Some a) 0) outer

  pub expr-run : {ts : List Token} {t : Tree} → IsExpr ts t → (outer : List Level) → ExprRun ts t outer
  expr-run (term {t = t} x) outer = record { left = None; last = t; runs = term-run x None outer; whole = refl }
  expr-run (disjunction {xs = xs} {ys = ys} {a = a} {b = b} x y) outer =
      let r = expr-run x outer in
      record {
        left = Some (joined Either r.left r.last);
        last = b;
        runs = run-over xs (codes "or" ∷ ys) _ _ r.runs ∙ term-run y (Some (joined Either r.left r.last)) outer;
        whole = ap (λ u. Either u b) r.whole;
      }

abbrev pub tree_read : Result State Refusal → Option Tree
tree_read (Ok s) = finish s
tree_read (Err e) = None

-- the reader gives the tree that the grammar gives
pub expr-read : {ts : List Token} {t : Tree} → IsExpr ts t → tree_read (run start ts) ≡ Some t
expr-read e = let r = expr-run e [] in ap tree_read r.runs ∙ ap Some r.whole

-- tokens have at most one tree
pub one-tree : (ts : List Token) (a b : Tree) → IsExpr ts a → IsExpr ts b → a ≡ b
one-tree ts a b x y = let p = expr-read x in let q = expr-read y in cc
