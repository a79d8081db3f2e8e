-- Sets of words written and read back.
use Rattle.std.proofs.Common.{◌≡◌, ◌≢◌, ℕ, suc, ◌+◌, ◌<◌, ◌≤◌, Bool, true, false, cond, not, eqb, leb, ltb, List, [], ◌∷◌, ◌++◌, length, get_or, chars, IsUtf8, encode_utf8_all, codes, Ok, Err, refl, sym, ap, ◌∙◌, append_assoc, arith, inl, inr}
use Rattle.std.specs.Cmp.{IsTotalOrder}
use Rattle.std.specs.Cmp.Lexicographic.{slice_cmp, texts_ties}
use Rattle.std.specs.declared.cmp.Ordering.{Ordering}
use Rattle.std.specs.declared.cmp.Ordering.TheVariants.{Less, Equal, Greater}
use Rattle.std.specs.List.{All, AllByRecursion, list_any, join_with_byte}
use Rattle.std.specs.Ordering.{nat_cmp, is_lt, is_eq, ordering_reverse}
use Rattle.std.specs.Str.{NonePass, NoCharPasses, bytes_eq}
use Rattle.std.proofs.lemmas.Bool.{cases_lt, or_parts, or_from, and_parts, false≢true, leb-false, false_from_ne_true, cond-false, ne_eqb}
use Rattle.std.proofs.lemmas.Cmp.{nat_list_cmp_total}
use Rattle.std.proofs.lemmas.List.{length-append}
use Rattle.std.proofs.lemmas.List.Elements.{All-from_get_or}
use Rattle.std.proofs.lemmas.List.Splits.{slice_split_at, slice_split_none}
use Rattle.std.proofs.lemmas.Slice.Eq.{bytes_eq-Decides}
use Rattle.std.proofs.lemmas.Str.{NoCharPasses-byte, encodes-chars}
use Rattle.photo_record.specs.Word.{IsWord, is_bad_character, word_before, is_rising, has_word, put_word}
use Rattle.photo_record.specs.Reading.{word_of_text, words_of_text, with_piece, with_pieces, pieces_of, is_dash, ◌>>=◌}
use Rattle.photo_record.specs.declared.fault.WordFault.TheVariants.{Empty, BadCharacter, TooLong}
use Rattle.unicode_normalization.specs.Forms.{nfc}
use Rattle.photo_record.proofs.ReadLemmas.{word_itself}
use Rattle.photo_record.proofs.SetLemmas.{with_piece-absent, words_of_text-dash, words_of_text-pieces, rising_tail}
use Rattle.script_reader.specs.Lines.{is_not_empty}
use Rattle.photo_record.specs.Showing.{words_text}
use Rattle.script_text.proofs.Bytes.{is_from, from-places, from-append}
use Rattle.script_text.proofs.Cuts.{IsField}

-- Bytes of a word

none-bad : (cs : List ℕ) → list_any is_bad_character cs ≡ false → NonePass is_bad_character cs
none-bad [] h = tt
none-bad (c ∷ cs) h = let parts = or_parts (is_bad_character c) (list_any is_bad_character cs) h in (parts.0, none-bad cs parts.1)

-- if no character is bad, no byte is a bad character
module _ (w : List ℕ) (good : NoCharPasses is_bad_character w) where
  good-byte : (k : ℕ) → k < length w → get_or w k 0 < 128 → is_bad_character (get_or w k 0) ≡ false
  good-byte k lt small = NoCharPasses-byte is_bad_character w k good lt small

  high-byte : (k : ℕ) → k < length w → 33 ≤ get_or w k 0
  high-byte k lt = elim (cases_lt (get_or w k 0) 128) [
    | inl small ↦
        let b = get_or w k 0 in
        let first : leb b 32 ≡ false = (or_parts (leb b 32) _ (good-byte k lt small)).0 in
        leb-false b 32 first
    | inr large ↦ omega arith
  ]

  pub good-plain : is_from 33 w ≡ true
  good-plain = from-places 33 w high-byte

  -- a comma is a bad character
  comma-byte : (b : ℕ) → is_bad_character b ≡ false → b ≡ 44 → ⊥
  comma-byte b h e = false≢true (sym h ∙ ap is_bad_character e)

  good-no_comma : All (λ b. eqb b 44 ≡ false) w
  good-no_comma = All-from_get_or (λ b. eqb b 44 ≡ false) w 0 (λ k lt. elim (cases_lt (get_or w k 0) 128) [
    | inl small ↦ ne_eqb (get_or w k 0) 44 (comma-byte (get_or w k 0) (good-byte k lt small))
    | inr large ↦ ne_eqb (get_or w k 0) 44 (λ e. absurd (omega arith))
  ])

word-good : (w : List ℕ) → IsWord w → IsUtf8 w → NoCharPasses is_bad_character w
word-good w word utf8 = (chars w, encodes-chars w utf8, none-bad (chars w) word.no_bad_character)

word-plain : (w : List ℕ) → IsWord w → IsUtf8 w → is_from 33 w ≡ true
word-plain w word utf8 = good-plain w (word-good w word utf8)

word-no_comma : (w : List ℕ) → IsWord w → IsUtf8 w → All (λ b. eqb b 44 ≡ false) w
word-no_comma w word utf8 = good-no_comma w (word-good w word utf8)

-- the bytes of a word that is read aren't bad characters

read-parts : (form word w : List ℕ) → cond (eqb (length form) 0) (Err Empty) (cond (list_any is_bad_character form) (Err BadCharacter) (cond (ltb 64 (length word)) (Err TooLong) (Ok word))) ≡ Ok w → (list_any is_bad_character form ≡ false) × (word ≡ w)
read-parts form word w = by _ _ _ refl
  where
    by : (a b c : Bool) → list_any is_bad_character form ≡ b → cond a (Err Empty) (cond b (Err BadCharacter) (cond c (Err TooLong) (Ok word))) ≡ Ok w → (list_any is_bad_character form ≡ false) × (word ≡ w)
    by true b c q e = cc
    by false true c q e = cc
    by false false true q e = cc
    by false false false q e = (q, cc)

pub read-plain : (text w : List ℕ) → word_of_text text ≡ Ok w → is_from 33 w ≡ true
unfolding word_of_text
read-plain text w e =
    let parts = read-parts (nfc (chars text)) (encode_utf8_all (nfc (chars text))) w e in
    good-plain w (nfc (chars text), parts.1, none-bad (nfc (chars text)) parts.0)

-- The pieces between commas

abbrev pub IsSpelt : List ℕ → Type 0
IsSpelt w = IsWord w × IsUtf8 w

pieces-joined : (w : List ℕ) (ws : List (List ℕ)) → AllByRecursion IsSpelt (w ∷ ws) → pieces_of (join_with_byte 44 (w ∷ ws)) ≡ w ∷ ws
pieces-joined w [] h = slice_split_none (λ b. eqb b 44) w (word-no_comma w h.0.0 h.0.1)
pieces-joined w (v ∷ vs) h =
    slice_split_at (λ b. eqb b 44) w 44 (join_with_byte 44 (v ∷ vs)) (word-no_comma w h.0.0 h.0.1) refl
    ∙ ap (λ ps. w ∷ ps) (pieces-joined v vs h.1)

-- The order of words

abbrev order : List ℕ → List ℕ → Ordering
order = slice_cmp nat_cmp

total : IsTotalOrder order
total = nat_list_cmp_total

less-from : (v w : List ℕ) → word_before v w ≡ true → order v w ≡ Less
less-from v w h = by (order v w) h
  where
    by : (o : Ordering) → is_lt o ≡ true → o ≡ Less
    by Less h = refl
    by Equal h = cc
    by Greater h = cc

-- each of these words stands before another word
abbrev AreBefore : List (List ℕ) → List ℕ → Type 0
AreBefore front w = AllByRecursion (λ v. order v w ≡ Less) front

before-back : (v w : List ℕ) → order v w ≡ Less → word_before w v ≡ false
before-back v w h = ap is_lt (total.antisymm w v ∙ ap ordering_reverse h)

before-differs : (v w : List ℕ) → order v w ≡ Less → bytes_eq v w ≡ false
before-differs v w h = texts_ties v w ∙ ap is_eq h

put-last : (front : List (List ℕ)) (w : List ℕ) → AreBefore front w → put_word w front ≡ front ++ w ∷ []
put-last [] w h = refl
put-last (v ∷ vs) w h =
    cond-false (word_before w v) (w ∷ v ∷ vs) (v ∷ put_word w vs) (before-back v w h.0) ∙ ap (λ ws. v ∷ ws) (put-last vs w h.1)

has-none : (front : List (List ℕ)) (w : List ℕ) → AreBefore front w → has_word front w ≡ false
has-none [] w h = refl
has-none (v ∷ vs) w h = or_from (bytes_eq v w) (has_word vs w) (before-differs v w h.0) (has-none vs w h.1)

before-more : (front : List (List ℕ)) (v w : List ℕ) → AreBefore front v → order v w ≡ Less → AreBefore (front ++ v ∷ []) w
before-more [] v w h g = (g, tt)
before-more (u ∷ us) v w h g = (total.trans u v w h.0 g, before-more us v w h.1 g)

-- Words in rising order are read back as they are

piece-read : (front : List (List ℕ)) (w : List ℕ) → IsSpelt w → AreBefore front w → length front < 16 → with_piece front w ≡ Ok (front ++ w ∷ [])
piece-read front w spelt before room =
    with_piece-absent front w w room (word_itself w spelt.1 spelt.0) (has-none front w before) ∙ ap Ok (put-last front w before)

pieces-read : (front : List (List ℕ)) (w : List ℕ) (ws : List (List ℕ)) → AllByRecursion IsSpelt (w ∷ ws) → AreBefore front w → is_rising (w ∷ ws) ≡ true → length front + length (w ∷ ws) ≤ 16
    → with_pieces front (w ∷ ws) ≡ Ok (front ++ w ∷ ws)
pieces-read front w [] spelt before rising room = rw (piece-read front w spelt.0 before (omega arith)) refl
pieces-read front w (v ∷ vs) spelt before rising room =
    let first = piece-read front w spelt.0 before (omega arith) in
    let next : order w v ≡ Less = less-from w v (and_parts (word_before w v) (is_rising (v ∷ vs)) rising).0 in
    let whole : (front ++ w ∷ []) ++ (v ∷ vs) ≡ front ++ w ∷ v ∷ vs = append_assoc front (w ∷ []) (v ∷ vs) in
    let size : length (front ++ w ∷ []) ≡ length front + 1 = length-append front (w ∷ []) in
    ap (λ r. r >>= λ more. with_pieces more (v ∷ vs)) first
    ∙ pieces-read (front ++ w ∷ []) v vs spelt.1 (before-more front w v before next) (rising_tail w (v ∷ vs) rising) (omega arith)
    ∙ ap Ok whole

-- The text of a set

comma-none : (w rest : List ℕ) → is_dash (w ++ 44 ∷ rest) ≡ false
comma-none w rest = false_from_ne_true _ (λ t. by w rest ((bytes_eq-Decides (w ++ 44 ∷ rest) (codes "-")).0 t))
  where
    by : (w rest : List ℕ) → w ++ 44 ∷ rest ≡ 45 ∷ [] → ⊥
    by [] rest e = absurd (false≢true (ap (λ (l : List ℕ). eqb (get_or l 0 0) 45) e))
    by (b ∷ bs) rest e = let size : suc (length (bs ++ 44 ∷ rest)) ≡ 1 = ap length e in absurd (omega (arith, length-append bs (44 ∷ rest)))

is-no_dash : (w : List ℕ) (ws : List (List ℕ)) → (w ∷ ws) ≢ (codes "-" ∷ []) → is_dash (join_with_byte 44 (w ∷ ws)) ≡ false
is-no_dash w [] h = false_from_ne_true _ (λ t. h (ap (λ x. x ∷ []) ((bytes_eq-Decides w (codes "-")).0 t)))
is-no_dash w (v ∷ vs) h = comma-none w (join_with_byte 44 (v ∷ vs))

pub words-read : (words : List (List ℕ)) → AllByRecursion IsSpelt words → is_rising words ≡ true → length words ≤ 16 → words ≢ (codes "-" ∷ []) → words_of_text (words_text words) ≡ Ok words
words-read [] spelt rising few other = words_of_text-dash (codes "-") refl
words-read (w ∷ ws) spelt rising few other =
    words_of_text-pieces (join_with_byte 44 (w ∷ ws)) (is-no_dash w ws other)
    ∙ ap (with_pieces []) (pieces-joined w ws spelt) ∙ pieces-read [] w ws spelt tt rising (omega arith)

joined-plain : (w : List ℕ) (ws : List (List ℕ)) → AllByRecursion IsSpelt (w ∷ ws) → is_from 33 (join_with_byte 44 (w ∷ ws)) ≡ true
joined-plain w [] h = word-plain w h.0.0 h.0.1
joined-plain w (v ∷ vs) h = from-append 33 w (44 ∷ join_with_byte 44 (v ∷ vs)) (word-plain w h.0.0 h.0.1) (joined-plain v vs h.1)

joined-some : (w : List ℕ) (ws : List (List ℕ)) → IsWord w → is_not_empty (join_with_byte 44 (w ∷ ws)) ≡ true
joined-some [] ws h = absurd (h.not_empty refl)
joined-some (b ∷ bs) [] h = ap not (ne_eqb (suc (length bs)) 0 (λ e. absurd (omega arith)))
joined-some (b ∷ bs) (v ∷ vs) h = ap not (ne_eqb (suc (length (bs ++ 44 ∷ join_with_byte 44 (v ∷ vs)))) 0 (λ e. absurd (omega arith)))

pub words-field : (words : List (List ℕ)) → AllByRecursion IsSpelt words → IsField (words_text words)
words-field [] spelt = record { plain = refl; some = refl }
words-field (w ∷ ws) spelt = record { plain = joined-plain w ws spelt; some = joined-some w ws spelt.0.0 }
