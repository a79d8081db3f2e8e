-- Reading gives words and sets of words.
use Rattle.std.proofs.Common.{◌≡◌, ◌≢◌, ℕ, ◌<◌, ◌≤◌, Bool, true, false, eqb, ltb, leb, cond, List, [], ◌∷◌, length, chars, encode_utf8_all, IsUtf8, Result, Ok, Err, refl, sym, ap, subst, ◌∙◌, arith}
use Rattle.std.proofs.lemmas.Bool.{eqb-false, ltb-false, leb-false}
use Rattle.std.proofs.lemmas.Str.{chars-nil, chars_from_encodes, encodes-chars}
use Rattle.std.specs.List.{list_any}
use Rattle.unicode_normalization.specs.Forms.{nfc}
use Rattle.unicode_normalization.proofs.FormsLemmas.{nfc_idem}
use Rattle.photo_record.specs.Reading.{word_of_text, ◌>>=◌, with_new_word, with_piece, with_pieces, pieces_of, is_dash, words_of_text}
use Rattle.photo_record.specs.Word.{IsWord, is_bad_character, is_rising, has_word, put_word}
use Rattle.photo_record.specs.declared.fault.WordFault.{WordFault}
use Rattle.photo_record.specs.declared.fault.WordFault.TheVariants.{Empty, BadCharacter, TooLong, TooMany, Repeated}
use Rattle.photo_record.proofs.FormLemmas.{word_of_text-ok}
use Rattle.photo_record.proofs.SetLemmas.{rising_put, length-put_word, words_of_text-dash, words_of_text-pieces}

-- a word reads as itself
pub word_itself : (w : List ℕ) → IsUtf8 w → IsWord w → word_of_text w ≡ Ok w
word_itself w utf8 is =
    word_of_text-ok w w (record { text_utf8 = utf8; some = is.not_empty; utf8 = utf8; is = sym (ap encode_utf8_all is.in_form_c ∙ encodes-chars w utf8) }) is.no_bad_character is.short

-- ---- reading a word gives a word

record IsRead (form word w : List ℕ) : Type 0 where
  some : length form ≢ 0
  good : list_any is_bad_character form ≡ false
  short : length word ≤ 64
  is : word ≡ w

word_read : (form word w : List ℕ) → cond (eqb (length form) 0) (Err Empty) (cond (list_any is_bad_character form) (Err BadCharacter) (cond (ltb 64 (length word)) (Err TooLong) (Ok word))) ≡ Ok w → IsRead form word w
word_read form word w = by _ _ _ refl refl refl
  where
    by : (a b c : Bool) → eqb (length form) 0 ≡ a → list_any is_bad_character form ≡ b → ltb 64 (length word) ≡ c → cond a (Err Empty) (cond b (Err BadCharacter) (cond c (Err TooLong) (Ok word))) ≡ Ok w → IsRead form word w
    by true b c p q r e = cc
    by false true c p q r e = cc
    by false false true p q r e = cc
    by false false false p q r e = record { some = eqb-false (length form) 0 p; good = q; short = ltb-false 64 (length word) r; is = cc }

pub word_is : (text w : List ℕ) → IsUtf8 w → word_of_text text ≡ Ok w → IsWord w
unfolding word_of_text
word_is text w utf8 e =
    let r = word_read (nfc (chars text)) (encode_utf8_all (nfc (chars text))) w e in
    let same : chars w ≡ nfc (chars text) = sym (chars_from_encodes (nfc (chars text)) w utf8 r.is) in
    record {
      in_form_c = ap nfc same ∙ nfc_idem (chars text) ∙ sym same;
      not_empty = λ none. r.some (ap length (sym same ∙ ap chars none ∙ chars-nil));
      no_bad_character = ap (list_any is_bad_character) same ∙ r.good;
      short = subst (λ b. length b ≤ 64) r.is r.short;
    }

-- ---- reading a set gives a set

ok_same : {x y : List (List ℕ)} → (let r : Result (List (List ℕ)) WordFault = Ok x in r) ≡ Ok y → x ≡ y
ok_same e = cc

record IsSet (words : List (List ℕ)) : Type 0 where
  rising : is_rising words ≡ true
  few : length words ≤ 16

with_piece-set : (words : List (List ℕ)) (piece : List ℕ) (more : List (List ℕ)) → IsSet words → with_piece words piece ≡ Ok more → IsSet more
with_piece-set words piece more set = by _ _ refl
  where
    last : (w : List ℕ) (b : Bool) → has_word words w ≡ b → length words < 16 → cond b (Err Repeated) (Ok (put_word w words)) ≡ Ok more → IsSet more
    last w true h room e = cc
    last w false h room e =
        let same : put_word w words ≡ more = cc in
        subst IsSet same (record { rising = rising_put w words set.rising h; few = omega (arith, length-put_word w words) })

    by : (full : Bool) (r : Result (List ℕ) WordFault) → leb 16 (length words) ≡ full → cond full (Err TooMany) (r >>= with_new_word words) ≡ Ok more → IsSet more
    by true r h e = cc
    by false (Err f) h e = cc
    by false (Ok w) h e = last w (has_word words w) refl (leb-false 16 (length words) h) e

with_pieces-set : (words : List (List ℕ)) (pieces : List (List ℕ)) (more : List (List ℕ)) → IsSet words → with_pieces words pieces ≡ Ok more → IsSet more
with_pieces-set words [] more set e = let same : words ≡ more = cc in subst IsSet same set
with_pieces-set words (piece ∷ pieces) more set e =
    by (with_piece words piece) refl e (λ m h. with_pieces-set m pieces more (with_piece-set words piece m set h))
  where
    by : (r : Result (List (List ℕ)) WordFault) → with_piece words piece ≡ r → (r >>= λ m. with_pieces m pieces) ≡ Ok more → ((m : List (List ℕ)) → with_piece words piece ≡ Ok m → with_pieces m pieces ≡ Ok more → IsSet more) → IsSet more
    by (Err f) h e next = cc
    by (Ok m) h e next = next m h e

set_read : (text : List ℕ) (words : List (List ℕ)) → words_of_text text ≡ Ok words → IsSet words
set_read text words e = by _ refl
  where
    none : IsSet []
    none = record { rising = refl; few = omega arith }

    by : (b : Bool) → is_dash text ≡ b → IsSet words
    by true h = let same : [] ≡ words = let f = sym (words_of_text-dash text h) ∙ e in ok_same f in subst IsSet same none
    by false h = with_pieces-set [] (pieces_of text) words none (sym (words_of_text-pieces text h) ∙ e)

pub set_rising : (text : List ℕ) (words : List (List ℕ)) → words_of_text text ≡ Ok words → is_rising words ≡ true
set_rising text words e = (set_read text words e).rising

pub set_few : (text : List ℕ) (words : List (List ℕ)) → words_of_text text ≡ Ok words → length words ≤ 16
set_few text words e = (set_read text words e).few
