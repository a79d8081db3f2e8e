-- Splitting what was joined: lines ended by LF, and fields separated by spaces.
use Rattle.std.proofs.Common.{◌≡◌, ℕ, suc, ◌+◌, ◌-◌, Bool, true, false, not, eqb, List, [], ◌∷◌, ◌++◌, length, get_or, take, drop, map, Some, None, refl, sym, ap, ◌∙◌, append_assoc, arith}
use Rattle.std.specs.List.{All, AllByRecursion, slice_split, onto_first, filter, flat_map, join_with_byte, list_any, before_first, after_first, position_or_len}
use Rattle.std.specs.Str.Lines.{strip_carriage_return}
use Rattle.std.proofs.lemmas.Bool.{cond-true, cond-false, ne_eqb}
use Rattle.std.proofs.lemmas.List.{drop_at, take_at, length-append, get_or_at, get_or_append_left}
use Rattle.std.proofs.lemmas.List.Splits.{slice_split_at, slice_split_none, slice_split-cons_no}
use Rattle.std.proofs.lemmas.List.Sums.{position_or_len_is}
use Rattle.std.proofs.lemmas.List.Folds.{list_any_at}
use Rattle.script_reader.specs.Lines.{pieces_of, without_last_empty, lines_of, is_not_empty, fields_of, without_spaces, behind_field, third_field_on}
use Rattle.script_reader.specs.Fields.{cut_at}
use Rattle.script_text.specs.Texts.{ended}
use Rattle.script_text.proofs.Bytes.{is_from, from-weaker, from-append, none-is}

-- Lines

abbrev AreLines : List (List ℕ) → Type 0
AreLines lines = AllByRecursion (λ l. is_from 32 l ≡ true) lines

pieces-ended : (lines : List (List ℕ)) → AreLines lines → pieces_of (flat_map ended lines) ≡ lines ++ [] ∷ []
pieces-ended [] h = refl
pieces-ended (l ∷ ls) h =
    ap pieces_of (append_assoc l (10 ∷ []) (flat_map ended ls))
    ∙ slice_split_at (λ b. eqb b 10) l 10 (flat_map ended ls) (none-is 10 32 l (omega arith) h.0) refl
    ∙ ap (λ ps. l ∷ ps) (pieces-ended ls h.1)

without-last : (lines : List (List ℕ)) → without_last_empty (lines ++ [] ∷ []) ≡ lines
without-last [] = refl
without-last (l ∷ []) = refl
without-last (l ∷ m ∷ ms) = ap (λ ps. l ∷ ps) (without-last (m ∷ ms))

strip-none : (l : List ℕ) → is_from 32 l ≡ true → strip_carriage_return l ≡ l
strip-none l h = cond-false (eqb (get_or l (length l - 1) 0) 13) (take (length l - 1) l) l (last l h)
  where
    last : (l : List ℕ) → is_from 32 l ≡ true → eqb (get_or l (length l - 1) 0) 13 ≡ false
    last [] h = refl
    last (b ∷ bs) h = none-is 13 32 (b ∷ bs) (omega arith) h (length (b ∷ bs) - 1) 0 (omega arith)

strip-all : (lines : List (List ℕ)) → AreLines lines → map strip_carriage_return lines ≡ lines
strip-all [] h = refl
strip-all (l ∷ ls) h = ap (λ x. x ∷ map strip_carriage_return ls) (strip-none l h.0) ∙ ap (λ xs. l ∷ xs) (strip-all ls h.1)

pub lines-ended : (lines : List (List ℕ)) → AreLines lines → lines_of (flat_map ended lines) ≡ lines
lines-ended lines h =
    ap (λ ps. map strip_carriage_return (without_last_empty ps)) (pieces-ended lines h)
    ∙ ap (map strip_carriage_return) (without-last lines) ∙ strip-all lines h

-- Fields

pub record IsField (x : List ℕ) : Type 0 where
  pub plain : is_from 33 x ≡ true
  pub some : is_not_empty x ≡ true

pub some-cons : (b : ℕ) (bs : List ℕ) → is_not_empty (b ∷ bs) ≡ true
some-cons b bs = ap not (ne_eqb (suc (length bs)) 0 (λ e. absurd (omega arith)))

pub some-append : (xs ys : List ℕ) → is_not_empty xs ≡ true → is_not_empty (xs ++ ys) ≡ true
some-append [] ys h = let bad : false ≡ true = h in cc
some-append (b ∷ bs) ys h = some-cons b (bs ++ ys)

-- fields joined by spaces have no LF
pub joined-from : (fields : List (List ℕ)) → AllByRecursion IsField fields → is_from 32 (join_with_byte 32 fields) ≡ true
joined-from [] h = refl
joined-from (x ∷ []) h = from-weaker 32 33 x (omega arith) h.0.plain
joined-from (x ∷ y ∷ ys) h = from-append 32 x (32 ∷ join_with_byte 32 (y ∷ ys)) (from-weaker 32 33 x (omega arith) h.0.plain) (joined-from (y ∷ ys) h.1)

kept : (x : List ℕ) (rest : List (List ℕ)) → is_not_empty x ≡ true → filter is_not_empty (x ∷ rest) ≡ x ∷ filter is_not_empty rest
kept x rest h = cond-true (is_not_empty x) (x ∷ filter is_not_empty rest) (filter is_not_empty rest) h

pub field-first : (x rest : List ℕ) → IsField x → fields_of (x ++ 32 ∷ rest) ≡ x ∷ fields_of rest
field-first x rest f =
    ap (filter is_not_empty) (slice_split_at (λ b. eqb b 32) x 32 rest (none-is 32 33 x (omega arith) f.plain) refl)
    ∙ kept x (slice_split (λ b. eqb b 32) rest) f.some

pub field-alone : (x : List ℕ) → IsField x → fields_of x ≡ x ∷ []
field-alone x f =
    ap (filter is_not_empty) (slice_split_none (λ b. eqb b 32) x (none-is 32 33 x (omega arith) f.plain)) ∙ kept x [] f.some

pub fields-joined : (fields : List (List ℕ)) → AllByRecursion IsField fields → fields_of (join_with_byte 32 fields) ≡ fields
fields-joined [] h = refl
fields-joined (x ∷ []) h = field-alone x h.0
fields-joined (x ∷ y ∷ ys) h = field-first x (join_with_byte 32 (y ∷ ys)) h.0 ∙ ap (λ fs. x ∷ fs) (fields-joined (y ∷ ys) h.1)

-- a text that doesn't begin with a space has a field
pub fields-some : (b : ℕ) (bs : List ℕ) → eqb b 32 ≡ false → (first : List ℕ) × (more : List (List ℕ)) × (fields_of (b ∷ bs) ≡ first ∷ more)
fields-some b bs h = by (slice_split (λ x. eqb x 32) bs) (ap (filter is_not_empty) (slice_split-cons_no (λ x. eqb x 32) b bs h))
  where
    by : (parts : List (List ℕ)) → fields_of (b ∷ bs) ≡ filter is_not_empty (onto_first b parts) → (first : List ℕ) × (more : List (List ℕ)) × (fields_of (b ∷ bs) ≡ first ∷ more)
    by [] e = (b ∷ [], [], e ∙ kept (b ∷ []) [] (some-cons b []))
    by (p ∷ ps) e = (b ∷ p, filter is_not_empty ps, e ∙ kept (b ∷ p) ps (some-cons b p))

-- Cuts

module _ (p : ℕ → Bool) (xs : List ℕ) (y : ℕ) (ys : List ℕ) (none : All (λ x. p x ≡ false) xs) (at : p y ≡ true) where
  first-place : position_or_len p (xs ++ y ∷ ys) ≡ length xs
  first-place =
      position_or_len_is p (xs ++ y ∷ ys) (length xs) 0 (omega (arith, length-append xs (y ∷ ys)))
      (λ k lt. ap p (get_or_append_left xs (y ∷ ys) 0 k lt) ∙ none k 0 lt)
      (λ lt. ap p (get_or_at xs y ys 0 (length xs) refl) ∙ at)

  pub before-cut : before_first p (xs ++ y ∷ ys) ≡ xs
  before-cut = ap (λ n. take n (xs ++ y ∷ ys)) first-place ∙ take_at xs (y ∷ ys) (length xs) refl

  pub after-cut : after_first p (xs ++ y ∷ ys) ≡ ys
  after-cut =
      let whole : (xs ++ y ∷ []) ++ ys ≡ xs ++ y ∷ ys = append_assoc xs (y ∷ []) ys in
      let size : length (xs ++ y ∷ []) ≡ length xs + 1 = length-append xs (y ∷ []) in
      ap (λ n. drop (n + 1) (xs ++ y ∷ ys)) first-place ∙ ap (λ t. drop (length xs + 1) t) (sym whole) ∙ drop_at (xs ++ y ∷ []) ys (length xs + 1) size

  pub cut-there : cut_at p (xs ++ y ∷ ys) ≡ Some (xs, ys)
  cut-there =
      cond-true (list_any p (xs ++ y ∷ ys)) (Some (before_first p (xs ++ y ∷ ys), after_first p (xs ++ y ∷ ys))) None
      (list_any_at p (xs ++ y ∷ ys) (length xs) 0 (omega (arith, length-append xs (y ∷ ys))) (ap p (get_or_at xs y ys 0 (length xs) refl) ∙ at))
      ∙ ap (λ t. Some (t, after_first p (xs ++ y ∷ ys))) before-cut ∙ ap (λ t. Some (xs, t)) after-cut

-- The text from the third field on

without-own : (x rest : List ℕ) → IsField x → without_spaces (x ++ 32 ∷ rest) ≡ x ++ 32 ∷ rest
without-own [] rest f = let bad : false ≡ true = f.some in cc
without-own (b ∷ bs) rest f =
    cond-false (eqb b 32) (without_spaces (bs ++ 32 ∷ rest)) (b ∷ (bs ++ 32 ∷ rest)) (none-is 32 33 (b ∷ bs) (omega arith) f.plain 0 0 (omega arith))

pub behind-first : (x rest : List ℕ) → IsField x → behind_field (x ++ 32 ∷ rest) ≡ rest
behind-first x rest f =
    ap (after_first (λ b. eqb b 32)) (without-own x rest f)
    ∙ after-cut (λ b. eqb b 32) x 32 rest (none-is 32 33 x (omega arith) f.plain) refl

pub third-on : (x y rest : List ℕ) → IsField x → IsField y → without_spaces rest ≡ rest → third_field_on (x ++ 32 ∷ (y ++ 32 ∷ rest)) ≡ rest
third-on x y rest f g h =
    ap (λ t. without_spaces (behind_field t)) (behind-first x (y ++ 32 ∷ rest) f) ∙ ap without_spaces (behind-first y rest g) ∙ h
