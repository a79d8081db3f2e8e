-- A printed text has the tree that was printed.
use Rattle.std.proofs.Common.{◌≡◌, ℕ, zero, suc, ◌<◌, ◌≤◌, Bool, true, false, ◌||◌, eqb, Some, List, [], ◌∷◌, ◌++◌, length, get_or, refl, sym, ap, subst, ◌∙◌, append_assoc, arith}
use Rattle.std.specs.Prelude.{codes}
use Rattle.std.specs.List.{list_any}
use Rattle.std.specs.Str.{chars, IsUtf8, NonePass, bytes_eq}
use Rattle.std.proofs.lemmas.Str.{encodes-chars}
use Rattle.std.proofs.lemmas.Str.Pattern.{NoCharPasses-char}
use Rattle.std.proofs.lemmas.Slice.Eq.{bytes_eq-Decides}
use Rattle.std.proofs.lemmas.Bool.{false≢true, ne_eqb}
use Rattle.photo_record.specs.Limits.{max_rating}
use Rattle.photo_record.specs.Word.{IsWord, is_bad_character}
use Rattle.photo_record.proofs.ReadLemmas.{word_itself}
use Rattle.photo_record.specs.Reading.{rating_of_text}
use Rattle.photo_filter_text.specs.declared.tree.Cmp.{Cmp}
use Rattle.photo_filter_text.specs.declared.tree.Cmp.TheVariants.{AtLeast, AtMost, Equal}
use Rattle.photo_filter_text.specs.Tree.{Tree, All, Nothing, Rate, On, Keyword, Not, Both, Either}
use Rattle.photo_filter_text.specs.Tokens.{Token, tokens_of}
use Rattle.photo_filter_text.specs.Cuts.{ends_token}
use Rattle.photo_filter_text.specs.Grammar.{all, none, rating, day, keyword, IsFactor, negation, brackets, test, factor, conjunction, IsExpr, term, disjunction, cmp_of, is_bracket}
use Rattle.photo_filter_text.specs.Printed.{text_of, cmp_text, date_text, digit, IsSound}
use Rattle.photo_filter_text.proofs.Cutting.{tokens-one, tokens-append}
use Rattle.photo_filter_text.proofs.Digits.{date-read, date-plain, date-filled}

cmp-read : (c : Cmp) → cmp_of (cmp_text c) ≡ Some c
cmp-read AtLeast = refl
cmp-read AtMost = refl
cmp-read Equal = refl

cmp-tokens : (c : Cmp) → tokens_of (cmp_text c) ≡ cmp_text c ∷ []
cmp-tokens AtLeast = refl
cmp-tokens AtMost = refl
cmp-tokens Equal = refl

rating-read : (n : ℕ) → n ≤ max_rating → (rating_of_text (digit n ∷ []) ≡ Some n) × (tokens_of (digit n ∷ []) ≡ (digit n ∷ []) ∷ [])
rating-read zero h = (refl, refl)
rating-read (suc zero) h = (refl, refl)
rating-read (suc (suc zero)) h = (refl, refl)
rating-read (suc (suc (suc zero))) h = (refl, refl)
rating-read (suc (suc (suc (suc zero)))) h = (refl, refl)
rating-read (suc (suc (suc (suc (suc zero))))) h = (refl, refl)
rating-read (suc (suc (suc (suc (suc (suc n)))))) h = absurd (omega arith)

-- a word doesn't have the bad character c
none-bad : (c : ℕ) → is_bad_character c ≡ true → (cs : List ℕ) → list_any is_bad_character cs ≡ false → NonePass (λ d. eqb d c) cs
none-bad c bad [] h = tt
none-bad c bad (d ∷ ds) h = go (is_bad_character d) refl h (none-bad c bad ds)
  where
    rest : Bool
    rest = list_any is_bad_character ds

    go : (b : Bool) → is_bad_character d ≡ b → (is_bad_character d || rest) ≡ false → (rest ≡ false → NonePass (λ x. eqb x c) ds) → NonePass (λ x. eqb x c) (d ∷ ds)
    go true e f more = absurd (false≢true (sym f ∙ ap (λ x. x || rest) e))
    go false e f more = (ne_eqb d c (λ q. false≢true (sym e ∙ ap is_bad_character q ∙ bad)), more (sym (ap (λ x. x || rest) e) ∙ f))

no-byte : (c : ℕ) → is_bad_character c ≡ true → c < 128 → (w : List ℕ) → IsWord w → IsUtf8 w → (k : ℕ) → k < length w → eqb (get_or w k 0) c ≡ false
no-byte c bad small w word utf8 k l =
    ne_eqb _ _ (NoCharPasses-char c w k (chars w, encodes-chars w utf8, none-bad c bad (chars w) word.no_bad_character) small l)

word-plain : (w : List ℕ) → IsWord w → IsUtf8 w → (k : ℕ) → k < length w → ends_token (get_or w k 0) ≡ false
word-plain w word utf8 k l =
    let b = get_or w k 0 in
    ap (λ x. x || (eqb b 40 || eqb b 41)) (no-byte 32 refl (omega arith) w word utf8 k l)
    ∙ ap (λ x. x || eqb b 41) (no-byte 40 refl (omega arith) w word utf8 k l)
    ∙ no-byte 41 refl (omega arith) w word utf8 k l

filled : (w : List ℕ) → (w ≡ [] → ⊥) → 0 < length w
filled [] h = absurd (h refl)
filled (b ∷ bs) h = omega arith

word-tokens : (w : List ℕ) → IsWord w → IsUtf8 w → tokens_of w ≡ w ∷ []
word-tokens w word utf8 = tokens-one w (filled w word.not_empty) (word-plain w word utf8)

no-bracket : (w : List ℕ) → ((k : ℕ) → k < length w → ends_token (get_or w k 0) ≡ false) → is_bracket w ≡ false
no-bracket w h = go (bytes_eq w (codes "(")) (bytes_eq w (codes ")")) refl refl
  where
    at : (c : ℕ) → w ≡ c ∷ [] → ends_token c ≡ false
    at c e = ap (λ v. ends_token (get_or v 0 0)) (sym e) ∙ h 0 (omega (arith, ap length e))

    go : (o c : Bool) → bytes_eq w (codes "(") ≡ o → bytes_eq w (codes ")") ≡ c → is_bracket w ≡ false
    go true c e f = absurd (false≢true (sym (at 40 ((bytes_eq-Decides w (codes "(")).0 e))))
    go false true e f = absurd (false≢true (sym (at 41 ((bytes_eq-Decides w (codes ")")).0 f))))
    go false false e f = ap (λ x. x || bytes_eq w (codes ")")) e ∙ f

-- two bracketed texts with a token between them are a factor
bracketed : (w : Token) → tokens_of w ≡ w ∷ [] → (x y : List ℕ) (t : Tree) → IsExpr (tokens_of x ++ w ∷ tokens_of y) t → IsFactor (tokens_of (codes "(" ++ 32 ∷ (x ++ 32 ∷ (w ++ 32 ∷ (y ++ 32 ∷ codes ")"))))) t
bracketed w q x y t h =
    let e : tokens_of (codes "(" ++ 32 ∷ (x ++ 32 ∷ (w ++ 32 ∷ (y ++ 32 ∷ codes ")")))) ≡ codes "(" ∷ (tokens_of x ++ (w ∷ (tokens_of y ++ codes ")" ∷ []))) =
    tokens-append (codes "(") (x ++ 32 ∷ (w ++ 32 ∷ (y ++ 32 ∷ codes ")"))) ∙ ap (λ ts. codes "(" ∷ ts) (tokens-append x (w ++ 32 ∷ (y ++ 32 ∷ codes ")")) ∙ ap (λ ts. tokens_of x ++ ts) (tokens-append w (y ++ 32 ∷ codes ")") ∙ (λ i. q i ++ tokens-append y (codes ")") i))) in
    let f : codes "(" ∷ ((tokens_of x ++ w ∷ tokens_of y) ++ codes ")" ∷ []) ≡ tokens_of (codes "(" ++ 32 ∷ (x ++ 32 ∷ (w ++ 32 ∷ (y ++ 32 ∷ codes ")")))) =
    ap (λ ts. codes "(" ∷ ts) (append_assoc (tokens_of x) (w ∷ tokens_of y) (codes ")" ∷ [])) ∙ sym e in
    subst (λ (ts : List Token). IsFactor ts t) f (brackets h)

-- a printed tree is a factor
pub printed : (t : Tree) → IsSound t → IsFactor (tokens_of (text_of t)) t
printed All h = test all
printed Nothing h = test none
printed (Rate cmp n) h =
    let r = rating-read n h in
    let e : tokens_of (text_of (Rate cmp n)) ≡ codes "rating" ∷ cmp_text cmp ∷ (digit n ∷ []) ∷ [] = tokens-append (codes "rating") (cmp_text cmp ++ 32 ∷ digit n ∷ []) ∙ ap (λ ts. codes "rating" ∷ ts) (tokens-append (cmp_text cmp) (digit n ∷ []) ∙ (λ i. cmp-tokens cmp i ++ r.1 i)) in
    subst (λ (ts : List Token). IsFactor ts (Rate cmp n)) (sym e) (test (rating (cmp-read cmp) r.0))
printed (On cmp n) h =
    let d = tokens-one (date_text n) (date-filled n) (date-plain n) in
    let e : tokens_of (text_of (On cmp n)) ≡ codes "day" ∷ cmp_text cmp ∷ date_text n ∷ [] = tokens-append (codes "day") (cmp_text cmp ++ 32 ∷ date_text n) ∙ ap (λ ts. codes "day" ∷ ts) (tokens-append (cmp_text cmp) (date_text n) ∙ (λ i. cmp-tokens cmp i ++ d i)) in
    subst (λ (ts : List Token). IsFactor ts (On cmp n)) (sym e) (test (day (cmp-read cmp) (date-read n h)))
printed (Keyword w) h =
    let e : tokens_of (text_of (Keyword w)) ≡ codes "keyword" ∷ w ∷ [] = tokens-append (codes "keyword") w ∙ ap (λ ts. codes "keyword" ∷ ts) (word-tokens w h.0 h.1) in
    subst (λ (ts : List Token). IsFactor ts (Keyword w)) (sym e) (test (keyword (no-bracket w (word-plain w h.0 h.1)) (word_itself w h.1 h.0)))
printed (Not part) h =
    subst (λ (ts : List Token). IsFactor ts (Not part)) (sym (tokens-append (codes "not") (text_of part))) (negation (printed part h))
printed (Both a b) h =
    bracketed (codes "and") refl (text_of a) (text_of b) (Both a b) (term (conjunction (factor (printed a h.0)) (printed b h.1)))
printed (Either a b) h =
    bracketed (codes "or") refl (text_of a) (text_of b) (Either a b) (disjunction (term (factor (printed a h.0))) (factor (printed b h.1)))
