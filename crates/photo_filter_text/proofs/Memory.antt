-- Where the reader may ask for memory.
use Rattle.std.proofs.Common.{◌≡◌, ◌⊎◌, inl, inr, ℕ, suc, zero, ◌+◌, Bool, true, false, ◌||◌, ◌&&◌, nat_lt, is_some, List, [], ◌∷◌, ◌++◌, take, drop, Option, Some, None, Result, Ok, refl, sym, ap, subst, ◌∙◌, append_assoc, ℤ, arith}
use Rattle.std.specs.Prelude.{codes}
use Rattle.std.proofs.lemmas.Bool.{false≢true, not-true}
use Rattle.photo_record.specs.Reading.{rating_of_text, day_of_text}
use Rattle.photo_filter_text.specs.declared.tree.Cmp.{Cmp}
use Rattle.photo_filter_text.specs.declared.reader.Refusal.{Refusal}
use Rattle.photo_filter_text.specs.declared.reader.Field.TheVariants.{RatingField, DayField}
use Rattle.photo_filter_text.specs.declared.symbol.Symbol.{Symbol}
use Rattle.photo_filter_text.specs.declared.symbol.Symbol.TheVariants.{Open, Close, OrWord, AndWord, NotWord, AllWord, NoneWord, RatingWord, DayWord, KeywordWord, Other}
use Rattle.photo_filter_text.specs.Tree.{Tree, All, Nothing, Rate, On, Either}
use Rattle.photo_filter_text.specs.Tokens.{Token}
use Rattle.photo_filter_text.specs.Grammar.{all, none, rating, day, IsFactor, brackets, test, IsExpr, cmp_of, is_bracket}
use Rattle.photo_filter_text.specs.Memory.{IsKept, MayWantMemory, at_token, at_word, at_end}
use Rattle.photo_filter_text.specs.Memory as kept
use Rattle.photo_filter_text.specs.Steps.{Place, AtFactor, AtOperator, AtValue, AtWord, After, Level, State, start, joined, at_factor, after_term, closed, test_of, step_at, step, finished, symbol_of, run, keeps_factor, keeps_at_factor, keeps_closed, keeps_after_term, keeps_at, keeps, keeps_finished, keeps_at_end}
use Rattle.photo_filter_text.proofs.Sound.{IsSpelled, symbol_spelled, AndAt, nots, nots-factor, LevelAt, TermAt, OpenAt, PlaceAt, expr-from_term, push-two, push-three, regroup, state-at, read-expr}
use Rattle.photo_filter_text.proofs.Faults.{run-begins, word-wanted, run-next, NextIs, next-is}

after-not : (us ors ands ns xs ls : List Token) (x : Token) → ls ≡ ors ++ (ands ++ x ∷ ns) → us ++ (ls ++ xs) ≡ (us ++ (ors ++ ands)) ++ x ∷ (ns ++ xs)
after-not us ors ands ns xs ls x e = rw e (simp append_assoc)

after-and : (us ors ands front xs ls : List Token) (x : Token) → ls ≡ ors ++ (ands ++ []) → ands ≡ front ++ x ∷ [] → us ++ (ls ++ xs) ≡ (us ++ (ors ++ front)) ++ x ∷ xs
after-and us ors ands front xs ls x e f = rw (e, f) (simp append_assoc)

-- a factor that the level makes the reader keep
factor-kept : (l : Level) (us ls xs : List Token) (t : Tree) → LevelAt l ls → IsFactor xs t → keeps_factor l ≡ true → IsKept (us ++ (ls ++ xs))
factor-kept l us ls xs t h f k = by_count l.negations l.both k h.and_at h.whole
  where
    by_count : (n : ℕ) (b : Option Tree) → (nat_lt 0 n || is_some b) ≡ true → AndAt b h.ands → ls ≡ h.ors ++ (h.ands ++ nots n) → IsKept (us ++ (ls ++ xs))
    by_count (suc n) b k a e =
        subst IsKept (sym (after-not us h.ors h.ands (nots n) xs ls (codes "not") e)) (kept.negation _ (nots-factor n xs t f))
    by_count zero (Some b) k a e =
        subst IsKept (sym (after-and us h.ors h.ands a.0 xs ls (codes "and") e a.2)) (kept.conjunction _ f)
    by_count zero None k a e = absurd (false≢true k)

-- the token is taken, and the reader allocates
abbrev Takes : Result State Refusal → List Token → Type 0
Takes r ts = ((s : State) × (r ≡ Ok s)) × IsKept ts

factor-takes : (l : Level) (outer : List Level) (us ls ts : List Token) (x : Token) → LevelAt l ls → ts ≡ us ++ ls → (s : Symbol) → IsSpelled s x → keeps_at_factor l s ≡ true → Takes (at_factor l outer s) (ts ++ x ∷ [])
unfolding at_factor keeps_at_factor
factor-takes l outer us ls ts x h e Open p k = ((_, refl), subst (λ (y : Token). IsKept (ts ++ y ∷ [])) (sym p) (kept.bracket ts))
factor-takes l outer us ls ts x h e AllWord p k = ((_, refl), subst IsKept (sym (push-two us ls ts x e ∙ ap (λ y. us ++ (ls ++ y ∷ [])) p)) (factor-kept l us ls (codes "all" ∷ []) All h (test all) k))
factor-takes l outer us ls ts x h e NoneWord p k = ((_, refl), subst IsKept (sym (push-two us ls ts x e ∙ ap (λ y. us ++ (ls ++ y ∷ [])) p)) (factor-kept l us ls (codes "none" ∷ []) Nothing h (test none) k))
factor-takes l outer us ls ts x h e NotWord p k = absurd (false≢true k)
factor-takes l outer us ls ts x h e RatingWord p k = absurd (false≢true k)
factor-takes l outer us ls ts x h e DayWord p k = absurd (false≢true k)
factor-takes l outer us ls ts x h e KeywordWord p k = absurd (false≢true k)
factor-takes l outer us ls ts x h e Close p k = absurd (false≢true k)
factor-takes l outer us ls ts x h e OrWord p k = absurd (false≢true k)
factor-takes l outer us ls ts x h e AndWord p k = absurd (false≢true k)
factor-takes l outer us ls ts x h e Other p k = absurd (false≢true k)

rating-takes : (l : Level) (outer : List Level) (us ls ts : List Token) (op x : Token) (cmp : Cmp) → LevelAt l ls → cmp_of op ≡ Some cmp → ts ≡ us ++ (ls ++ codes "rating" ∷ op ∷ []) → (r : Option ℕ) → rating_of_text x ≡ r → (is_some r && keeps_factor l) ≡ true → Takes (test_of l outer (Rate cmp) r) (ts ++ x ∷ [])
rating-takes l outer us ls ts op x cmp h c e None p k = absurd (false≢true k)
rating-takes l outer us ls ts op x cmp h c e (Some n) p k =
    ((_, refl), subst IsKept (sym (push-three us ls (codes "rating" ∷ op ∷ []) ts x e)) (factor-kept l us ls (codes "rating" ∷ op ∷ x ∷ []) (Rate cmp n) h (test (rating c p)) k))

day-takes : (l : Level) (outer : List Level) (us ls ts : List Token) (op x : Token) (cmp : Cmp) → LevelAt l ls → cmp_of op ≡ Some cmp → ts ≡ us ++ (ls ++ codes "day" ∷ op ∷ []) → (r : Option ℤ) → day_of_text x ≡ r → (is_some r && keeps_factor l) ≡ true → Takes (test_of l outer (On cmp) r) (ts ++ x ∷ [])
day-takes l outer us ls ts op x cmp h c e None p k = absurd (false≢true k)
day-takes l outer us ls ts op x cmp h c e (Some n) p k =
    ((_, refl), subst IsKept (sym (push-three us ls (codes "day" ∷ op ∷ []) ts x e)) (factor-kept l us ls (codes "day" ∷ op ∷ x ∷ []) (On cmp n) h (test (day c p)) k))

behind-or : (us ls ts ors last os : List Token) (w x : Token) → ts ≡ us ++ ls → ls ≡ ors ++ last → ors ≡ os ++ w ∷ [] → ts ++ x ∷ [] ≡ (us ++ os) ++ w ∷ (last ++ x ∷ [])
behind-or us ls ts ors last os w x e f g = rw (e, f, g) (simp append_assoc)

-- a term that the reader keeps for an `or`
term-kept : (e : Option Tree) (us ls ts : List Token) (t : Tree) (x : Token) → TermAt e t ls → ts ≡ us ++ ls → (x ≡ codes "or") ⊎ (x ≡ codes ")") → is_some e ≡ true → IsKept (ts ++ x ∷ [])
term-kept None us ls ts t x h q w k = absurd (false≢true k)
term-kept (Some a) us ls ts t x h q w k =
    subst IsKept (sym (behind-or us ls ts h.ors h.last h.or_at.0 (codes "or") x q h.whole h.or_at.2)) (kept.disjunction _ h.is_term w)

close-takes : (l : Level) (outer : List Level) (us ls ts : List Token) (t : Tree) (x : Token) → x ≡ codes ")" → OpenAt outer us → TermAt l.either t ls → ts ≡ us ++ ls → keeps_closed l.either outer ≡ true → Takes (closed (joined Either l.either t) outer) (ts ++ x ∷ [])
close-takes l [] us ls ts t x p o h e k = absurd (false≢true k)
close-takes l (m ∷ outer) us ls ts t x p o h e k = ((_, refl), go (is_some l.either) refl k)
  where
    go : (b : Bool) → is_some l.either ≡ b → (b || keeps_factor m) ≡ true → IsKept (ts ++ x ∷ [])
    go true q k = term-kept l.either us ls ts t x h e (inr p) q
    go false q k =
        let f = brackets (expr-from_term l.either t ls h) in
        let whole : ts ++ codes ")" ∷ [] ≡ o.0 ++ (o.1 ++ codes "(" ∷ (ls ++ codes ")" ∷ [])) = ap (λ ys. ys ++ codes ")" ∷ []) e ∙ sym (regroup us o.0 o.1 ls (codes "(") (codes ")") o.4) in
        subst IsKept (sym (ap (λ y. ts ++ y ∷ []) p ∙ whole)) (factor-kept m o.0 o.1 (codes "(" ∷ (ls ++ codes ")" ∷ [])) _ o.3 f k)

term-takes : (l : Level) (outer : List Level) (us ls ts : List Token) (t : Tree) (x : Token) → OpenAt outer us → TermAt l.either t ls → ts ≡ us ++ ls → (s : Symbol) → IsSpelled s x → keeps_after_term l outer s ≡ true → Takes (after_term l outer t s) (ts ++ x ∷ [])
unfolding after_term keeps_after_term
term-takes l outer us ls ts t x o h e OrWord p k = ((_, refl), term-kept l.either us ls ts t x h e (inl p) k)
term-takes l outer us ls ts t x o h e Close p k = close-takes l outer us ls ts t x p o h e k
term-takes l outer us ls ts t x o h e AndWord p k = absurd (false≢true k)
term-takes l outer us ls ts t x o h e Open p k = absurd (false≢true k)
term-takes l outer us ls ts t x o h e NotWord p k = absurd (false≢true k)
term-takes l outer us ls ts t x o h e AllWord p k = absurd (false≢true k)
term-takes l outer us ls ts t x o h e NoneWord p k = absurd (false≢true k)
term-takes l outer us ls ts t x o h e RatingWord p k = absurd (false≢true k)
term-takes l outer us ls ts t x o h e DayWord p k = absurd (false≢true k)
term-takes l outer us ls ts t x o h e KeywordWord p k = absurd (false≢true k)
term-takes l outer us ls ts t x o h e Other p k = absurd (false≢true k)

place-takes : (p : Place) (l : Level) (outer : List Level) (ts : List Token) (x : Token) → PlaceAt p l outer ts → keeps_at p l outer x ≡ true → ((p ≡ AtWord) × (is_bracket x ≡ false)) ⊎ Takes (step_at p l outer x) (ts ++ x ∷ [])
place-takes AtFactor l outer ts x h k = inr (factor-takes l outer h.0 h.1 ts x h.3 h.4 (symbol_of x) (symbol_spelled x) k)
place-takes (AtOperator field) l outer ts x h k = absurd (false≢true k)
place-takes (AtValue RatingField cmp) l outer ts x h k = inr (rating-takes l outer h.0 h.1 ts h.4 x cmp h.3 h.5 h.6 (rating_of_text x) refl k)
place-takes (AtValue DayField cmp) l outer ts x h k = inr (day-takes l outer h.0 h.1 ts h.4 x cmp h.3 h.5 h.6 (day_of_text x) refl k)
place-takes AtWord l outer ts x h k = inl (refl, not-true (is_bracket x) k)
place-takes (After t) l outer ts x h k = inr (term-takes l outer h.0 h.1 ts t x h.2 h.3 h.4 (symbol_of x) (symbol_spelled x) k)

-- a token at which the reader may ask for memory
pub wants-at : (ts : List Token) (n : ℕ) (x : Token) (rest : List Token) (s : State) → run start (take n ts) ≡ Ok s → drop n ts ≡ x ∷ rest → keeps s x ≡ true → MayWantMemory ts
wants-at ts n x rest s e d k = go (place-takes s.place s.level s.outer (take n ts) x (state-at (take n ts) s e) k)
  where
    next : NextIs ts n x rest
    next = next-is ts n x rest d

    go : ((s.place ≡ AtWord) × (is_bracket x ≡ false)) ⊎ Takes (step s x) (take n ts ++ x ∷ []) → MayWantMemory ts
    go (inl w) = at_word (n + 1) (omega (arith, next.within)) (n, refl, word-wanted (take n ts) s e w.0, ap is_bracket next.there ∙ w.1)
    go (inr t) = at_token (n + 1) (run-begins (take (n + 1) ts) t.0.0 (run-next ts n x rest s e d ∙ t.0.1)) (subst IsKept (sym next.front) t.1)

at-or : (us ls ts ors last os : List Token) (w : Token) → us ≡ [] → ts ≡ us ++ ls → ls ≡ ors ++ last → ors ≡ os ++ w ∷ [] → ts ≡ os ++ w ∷ last
at-or us ls ts ors last os w d e f g = rw (e, d, f, g) (append_assoc os (w ∷ []) last)

-- an end at which the reader may ask for memory
pub wants-at_end : (ts : List Token) (s : State) → run start ts ≡ Ok s → keeps_at_end s ≡ true → MayWantMemory ts
wants-at_end ts s e k = by_place s.place s.level s.outer (state-at ts s e) (λ t f. read-expr ts s t e f) k
  where
    by_or : (e : Option Tree) (t : Tree) (us ls : List Token) → us ≡ [] → TermAt e t ls → ts ≡ us ++ ls → IsExpr ts (joined Either e t) → is_some e ≡ true → MayWantMemory ts
    by_or None t us ls d h q x k = absurd (false≢true k)
    by_or (Some a) t us ls d h q x k = at_end _ x (at-or us ls ts h.ors h.last h.or_at.0 (codes "or") d q h.whole h.or_at.2) h.is_term

    by_place : (p : Place) (l : Level) (outer : List Level) → PlaceAt p l outer ts → ((t : Tree) → finished p l outer ≡ Some t → IsExpr ts t) → keeps_finished p l outer ≡ true → MayWantMemory ts
    by_place (After t) l [] h x k = by_or l.either t h.0 h.1 h.2 h.3 h.4 (x _ refl) k
    by_place (After t) l (m ∷ outer) h x k = absurd (false≢true k)
    by_place AtFactor l outer h x k = absurd (false≢true k)
    by_place (AtOperator field) l outer h x k = absurd (false≢true k)
    by_place (AtValue field cmp) l outer h x k = absurd (false≢true k)
    by_place AtWord l outer h x k = absurd (false≢true k)
