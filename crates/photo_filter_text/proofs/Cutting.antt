-- The tokens of a text, by what is at its front.
use Rattle.std.proofs.Common.{◌≡◌, ℕ, zero, suc, ◌+◌, ◌≤◌, ◌<◌, Bool, true, false, cond, not, ◌||◌, eqb, max, length, get_or, take, drop, List, [], ◌∷◌, ◌++◌, filter, refl, sym, ap, ◌∙◌, Option, Some, None, unwrap_or, ltb, arith, one-add}
use Rattle.std.specs.List.{slice_split, onto_first, flat_map, position, position_or_len}
use Rattle.std.specs.Str.{IsUtf8, IsCharBoundary}
use Rattle.std.proofs.lemmas.Str.{IsCharBoundary-after_ascii, IsCharBoundary-before_ascii, IsCharBoundary-end}
use Rattle.std.proofs.lemmas.List.Sums.{prefix_len-le-length, prefix_len_stops, prefix_len_is}
use Rattle.std.proofs.lemmas.List.{take_all, drop_all}
use Rattle.std.proofs.lemmas.List.Splits.{slice_split-cons_yes, slice_split-cons_no}
use Rattle.std.proofs.lemmas.List.Concat.{flat_map-append}
use Rattle.std.proofs.lemmas.List.Elements.{filter-append}
use Rattle.std.proofs.lemmas.Bool.{false≢true, not-false, not-true, ltb-false, ltb-true}
use Rattle.std.proofs.lemmas.Bool.Decides.{Decides-eqb}
use Rattle.photo_filter_text.specs.Tokens.{is_space, is_bracket_byte, with_room, is_filled, tokens_of}
use Rattle.photo_filter_text.specs.Cuts.{ends_token, starts_token}

-- the pieces between spaces, once each bracket has spaces around it
abbrev pub parts : List ℕ → List (List ℕ)
parts bs = slice_split is_space (flat_map with_room bs)

-- the pieces of a text whose first byte ends a token
parts-cut : (b : ℕ) (bs : List ℕ) → ends_token b ≡ true → (rest : List (List ℕ)) × (parts (b ∷ bs) ≡ [] ∷ rest)
parts-cut b bs h = go (eqb b 32) (eqb b 40) (eqb b 41) refl refl refl
  where
    go : (s o c : Bool) → eqb b 32 ≡ s → eqb b 40 ≡ o → eqb b 41 ≡ c → (rest : List (List ℕ)) × (parts (b ∷ bs) ≡ [] ∷ rest)
    go true o c es eo ec = let e = (Decides-eqb b 32).0 es in (parts bs, rw e refl)
    go false true c es eo ec = let e = (Decides-eqb b 40).0 eo in ((40 ∷ []) ∷ parts bs, rw e refl)
    go false false true es eo ec = let e = (Decides-eqb b 41).0 ec in ((41 ∷ []) ∷ parts bs, rw e refl)
    go false false false es eo ec = absurd (false≢true (sym (ap (λ x. x || (eqb b 40 || eqb b 41)) es ∙ ap (λ x. x || eqb b 41) eo ∙ ec) ∙ h))

-- the pieces of a text whose first byte doesn't end a token
parts-more : (b : ℕ) (bs : List ℕ) → ends_token b ≡ false → parts (b ∷ bs) ≡ onto_first b (parts bs)
parts-more b bs h = go (eqb b 32) (eqb b 40) (eqb b 41) refl refl refl
  where
    go : (s o c : Bool) → eqb b 32 ≡ s → eqb b 40 ≡ o → eqb b 41 ≡ c → parts (b ∷ bs) ≡ onto_first b (parts bs)
    go true o c es eo ec = absurd (false≢true (sym h ∙ ap (λ x. x || (eqb b 40 || eqb b 41)) es))
    go false true c es eo ec = absurd (false≢true (sym h ∙ ap (λ x. x || (eqb b 40 || eqb b 41)) es ∙ ap (λ x. x || eqb b 41) eo))
    go false false true es eo ec = absurd (false≢true (sym h ∙ ap (λ x. x || (eqb b 40 || eqb b 41)) es ∙ ap (λ x. x || eqb b 41) eo ∙ ec))
    go false false false es eo ec = rw (eo, ec, es) refl

abbrev cut_at : List ℕ → ℕ
cut_at bs = position_or_len ends_token bs

pub record Front (bs : List ℕ) : Type 0 where
  rest : List (List ℕ)
  whole : parts bs ≡ take (cut_at bs) bs ∷ rest
  behind : parts (drop (cut_at bs) bs) ≡ [] ∷ rest

front : (bs : List ℕ) → Front bs
front [] = record { rest = []; whole = refl; behind = refl }
front (b ∷ bs) = go (ends_token b) refl (front bs)
  where
    go : (e : Bool) → ends_token b ≡ e → Front bs → Front (b ∷ bs)
    go true h f =
        let p = parts-cut b bs h in
        let n : cut_at (b ∷ bs) ≡ 0 = ap (λ x. cond (not x) (1 + cut_at bs) 0) h in
        record { rest = p.0; whole = rw n p.1; behind = rw n p.1 }
    go false h f =
        let n : cut_at (b ∷ bs) ≡ suc (cut_at bs) = ap (λ x. cond (not x) (1 + cut_at bs) 0) h ∙ one-add (cut_at bs) in
        record { rest = f.rest; whole = rw n (parts-more b bs h ∙ ap (onto_first b) f.whole); behind = rw n f.behind }

-- a bracket is a token
tokens-bracket : (b : ℕ) (bs : List ℕ) → is_bracket_byte b ≡ true → tokens_of (b ∷ bs) ≡ (b ∷ []) ∷ tokens_of bs
tokens-bracket b bs h = go (eqb b 40) refl
  where
    go : (o : Bool) → eqb b 40 ≡ o → tokens_of (b ∷ bs) ≡ (b ∷ []) ∷ tokens_of bs
    go true eo = rw ((Decides-eqb b 40).0 eo) refl
    go false eo = rw ((Decides-eqb b 41).0 (sym (ap (λ x. x || eqb b 41) eo) ∙ h)) refl

-- a token other than a bracket goes up to the first byte that ends it
tokens-word : (b : ℕ) (bs : List ℕ) → ends_token b ≡ false → tokens_of (b ∷ bs) ≡ (b ∷ take (cut_at bs) bs) ∷ tokens_of (drop (cut_at bs) bs)
tokens-word b bs h =
    let f = front bs in
    ap (filter is_filled) (parts-more b bs h ∙ ap (onto_first b) f.whole)
    ∙ ap (λ ts. (b ∷ take (cut_at bs) bs) ∷ ts) (sym (ap (filter is_filled) f.behind))

-- the first token of a text that begins with one
pub tokens-first : (b : ℕ) (bs : List ℕ) (n : ℕ) → is_space b ≡ false → n ≡ max 1 (position_or_len ends_token (b ∷ bs)) → tokens_of (b ∷ bs) ≡ take n (b ∷ bs) ∷ tokens_of (drop n (b ∷ bs))
tokens-first b bs n s m = go (is_bracket_byte b) refl
  where
    go : (p : Bool) → is_bracket_byte b ≡ p → tokens_of (b ∷ bs) ≡ take n (b ∷ bs) ∷ tokens_of (drop n (b ∷ bs))
    go true h =
        let e : ends_token b ≡ true = ap (λ x. x || is_bracket_byte b) s ∙ h in
        let k : position_or_len ends_token (b ∷ bs) ≡ 0 = ap (λ x. cond (not x) (1 + cut_at bs) 0) e in
        let l : n ≡ 1 = m ∙ ap (max 1) k in
        rw l (tokens-bracket b bs h)
    go false h =
        let e : ends_token b ≡ false = ap (λ x. x || is_bracket_byte b) s ∙ h in
        let k : position_or_len ends_token (b ∷ bs) ≡ suc (cut_at bs) = ap (λ x. cond (not x) (1 + cut_at bs) 0) e ∙ one-add (cut_at bs) in
        let l : n ≡ suc (cut_at bs) = omega arith in
        rw l (tokens-word b bs e)

-- the place where the code cuts
pub cut_len : (bs : List ℕ) (o : Option ℕ) → o ≡ position ends_token bs → max (unwrap_or o (length bs)) 1 ≡ max 1 (position_or_len ends_token bs)
cut_len bs o e = go (ltb (position_or_len ends_token bs) (length bs)) refl
  where
    k : ℕ
    k = position_or_len ends_token bs

    short : k ≤ length bs
    short = prefix_len-le-length (λ b. not (ends_token b)) bs

    go : (t : Bool) → ltb k (length bs) ≡ t → max (unwrap_or o (length bs)) 1 ≡ max 1 k
    go true h =
        let f : unwrap_or o (length bs) ≡ k = ap (λ x. unwrap_or x (length bs)) (e ∙ ap (λ t. cond t (Some k) None) h) in
        omega arith
    go false h =
        let f : unwrap_or o (length bs) ≡ length bs = ap (λ x. unwrap_or x (length bs)) (e ∙ ap (λ t. cond t (Some k) None) h) in
        let s : k ≤ length bs = short in
        let g : length bs ≤ k = ltb-false k (length bs) h in
        omega arith

ends_ascii : (b : ℕ) → ends_token b ≡ true → b < 128
ends_ascii b h = go (eqb b 32) (eqb b 40) (eqb b 41) refl refl refl
  where
    go : (s o c : Bool) → eqb b 32 ≡ s → eqb b 40 ≡ o → eqb b 41 ≡ c → b < 128
    go true o c es eo ec = let e = (Decides-eqb b 32).0 es in omega arith
    go false true c es eo ec = let e = (Decides-eqb b 40).0 eo in omega arith
    go false false true es eo ec = let e = (Decides-eqb b 41).0 ec in omega arith
    go false false false es eo ec = absurd (false≢true (sym (ap (λ x. x || (eqb b 40 || eqb b 41)) es ∙ ap (λ x. x || eqb b 41) eo ∙ ec) ∙ h))

-- the cut after the first token is at a character's boundary
pub cut-boundary : (bs : List ℕ) (n : ℕ) → IsUtf8 bs → 0 < length bs → n ≡ max 1 (position_or_len ends_token bs) → IsCharBoundary bs n
cut-boundary bs n u p e = go (ltb k (length bs)) refl
  where
    k : ℕ
    k = position_or_len ends_token bs

    at : k < length bs → get_or bs k 0 < 128
    at l = ends_ascii _ (not-false _ (prefix_len_stops (λ b. not (ends_token b)) bs 0 l))

    first : k ≡ 0 → k < length bs → IsCharBoundary bs n
    first z l =
        let f : n ≡ 0 + 1 = omega arith in
        let g = at l in
        rw f (IsCharBoundary-after_ascii bs 0 u p (rw z at g))

    go : (t : Bool) → ltb k (length bs) ≡ t → IsCharBoundary bs n
    go true h = by_place k refl
      where
        l : k < length bs
        l = ltb-true k (length bs) h

        by_place : (j : ℕ) → k ≡ j → IsCharBoundary bs n
        by_place zero z = first z l
        by_place (suc j) z =
            let f : n ≡ k = omega arith in
            rw f (IsCharBoundary-before_ascii bs k l (at l))
    go false h =
        let g = ltb-false k (length bs) h in
        let m = prefix_len-le-length (λ b. not (ends_token b)) bs in
        let f : n ≡ length bs = omega arith in
        rw f (IsCharBoundary-end bs)

-- a text that doesn't begin with a space starts with a token
pub starts-token : (bs : List ℕ) → ((rest : List ℕ) → bs ≡ 32 ∷ rest → ⊥) → starts_token bs ≡ true
starts-token [] h = refl
starts-token (b ∷ bs) h = go (eqb b 32) refl
  where
    go : (s : Bool) → eqb b 32 ≡ s → not (eqb b 32) ≡ true
    go true e = absurd (h bs (ap (λ x. x ∷ bs) ((Decides-eqb b 32).0 e)))
    go false e = ap not e

-- the tokens of a text, split into the first and the rest
pub tokens-front : (bs : List ℕ) (n : ℕ) → starts_token bs ≡ true → 0 < length bs → n ≡ max 1 (position_or_len ends_token bs) → tokens_of bs ≡ take n bs ∷ tokens_of (drop n bs)
tokens-front [] n s p e = absurd (omega arith)
tokens-front (b ∷ bs) n s p e = tokens-first b bs n (not-true (is_space b) s) e

starts-plain : (bs : List ℕ) → 0 < length bs → ((k : ℕ) → k < length bs → ends_token (get_or bs k 0) ≡ false) → starts_token bs ≡ true
starts-plain [] p h = refl
starts-plain (b ∷ bs) p h = go (is_space b) refl (h 0 (omega arith))
  where
    go : (s : Bool) → is_space b ≡ s → ends_token b ≡ false → not (is_space b) ≡ true
    go true e f = absurd (false≢true (sym f ∙ ap (λ x. x || is_bracket_byte b) e))
    go false e f = ap not e

-- a split has at least one piece
split-first : (us : List ℕ) → (p : List ℕ) × (ps : List (List ℕ)) × (slice_split is_space us ≡ p ∷ ps)
split-first [] = ([], [], refl)
split-first (u ∷ us) = go (is_space u) refl (split-first us)
  where
    go : (s : Bool) → is_space u ≡ s → ((p : List ℕ) × (ps : List (List ℕ)) × (slice_split is_space us ≡ p ∷ ps)) → (p : List ℕ) × (ps : List (List ℕ)) × (slice_split is_space (u ∷ us) ≡ p ∷ ps)
    go true e f = ([], slice_split is_space us, slice_split-cons_yes is_space u us e)
    go false e f = (u ∷ f.0, f.1, slice_split-cons_no is_space u us e ∙ ap (onto_first u) f.2)

split-append : (us vs : List ℕ) → slice_split is_space (us ++ 32 ∷ vs) ≡ slice_split is_space us ++ slice_split is_space vs
split-append [] vs = refl
split-append (u ∷ us) vs = go (is_space u) refl (split-append us vs)
  where
    go : (s : Bool) → is_space u ≡ s → slice_split is_space (us ++ 32 ∷ vs) ≡ slice_split is_space us ++ slice_split is_space vs → slice_split is_space (u ∷ (us ++ 32 ∷ vs)) ≡ slice_split is_space (u ∷ us) ++ slice_split is_space vs
    go true e ih = slice_split-cons_yes is_space u (us ++ 32 ∷ vs) e ∙ ap (λ ps. [] ∷ ps) ih ∙ ap (λ ps. ps ++ slice_split is_space vs) (sym (slice_split-cons_yes is_space u us e))
    go false e ih =
        let f = split-first us in
        slice_split-cons_no is_space u (us ++ 32 ∷ vs) e
        ∙ ap (onto_first u) (ih ∙ ap (λ ps. ps ++ slice_split is_space vs) f.2)
        ∙ ap (λ ps. onto_first u ps ++ slice_split is_space vs) (sym f.2)
        ∙ ap (λ ps. ps ++ slice_split is_space vs) (sym (slice_split-cons_no is_space u us e))

-- a text without spaces and brackets is one token
pub tokens-one : (bs : List ℕ) → 0 < length bs → ((k : ℕ) → k < length bs → ends_token (get_or bs k 0) ≡ false) → tokens_of bs ≡ bs ∷ []
tokens-one bs p h =
    let e : position_or_len ends_token bs ≡ length bs = prefix_len_is (λ b. not (ends_token b)) bs (length bs) 0 (omega arith) (λ k l. ap not (h k l)) (λ l. absurd (omega arith)) in
    let s : starts_token bs ≡ true = starts-plain bs p h in
    let f = tokens-front bs (length bs) s p (omega arith) in
    f ∙ (λ i. take_all (length bs) bs (omega arith) i ∷ tokens_of (drop_all (length bs) bs (omega arith) i))

-- a space separates tokens
parts-append : (xs ys : List ℕ) → parts (xs ++ 32 ∷ ys) ≡ parts xs ++ parts ys
parts-append xs ys = ap (slice_split is_space) (flat_map-append with_room xs (32 ∷ ys)) ∙ split-append (flat_map with_room xs) (flat_map with_room ys)

pub tokens-append : (xs ys : List ℕ) → tokens_of (xs ++ 32 ∷ ys) ≡ tokens_of xs ++ tokens_of ys
tokens-append xs ys = ap (filter is_filled) (parts-append xs ys) ∙ filter-append is_filled (parts xs) (parts ys)
