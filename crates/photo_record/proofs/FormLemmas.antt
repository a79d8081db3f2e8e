-- Which word a text denotes, by its form C.
use Rattle.std.proofs.Common.{◌≡◌, ◌≢◌, ℕ, ◌<◌, ◌≤◌, true, false, eqb, ◌==◌, List, [], ◌∷◌, length, chars, encode_utf8_all, IsUtf8, flat_map, Ok, Err, refl, sym, ap, ◌∙◌, subst, arith, length-append}
use Rattle.std.proofs.lemmas.Bool.{lt-ltb, le-ltb, eq-eqb, ne_eqb, eqb-true, false≢true, cond-true, cond-false}
use Rattle.std.proofs.lemmas.Str.{chars-nil, chars_from_encodes, encodes-chars}
use Rattle.std.specs.List.{list_any}
use Rattle.unicode_normalization.specs.Decompose.{decompose}
use Rattle.unicode_normalization.specs.Forms.{Nfd, Nfc, decomposed, nfc, nfd}
use Rattle.unicode_normalization.proofs.DecomposeLemmas.{IsFull-decompose}
use Rattle.unicode_normalization.proofs.FormsLemmas.{normalize-nil, normalize-Nfd, nfd-nfc, nfc_idem}
use Rattle.unicode_normalization.proofs.OrderLemmas.{length-canonical_order}
use Rattle.photo_record.specs.Reading.{word_of_text}
use Rattle.photo_record.specs.Word.{IsWord, is_bad_character}
use Rattle.photo_record.specs.declared.fault.WordFault.TheVariants.{Empty, BadCharacter, TooLong}

no_element : (xs : List ℕ) → length xs ≡ 0 → xs ≡ []
no_element [] h = refl
no_element (x ∷ xs) h = absurd (omega arith)

no_shorter : (cs : List ℕ) → length cs ≤ length (flat_map (decompose Nfd) cs)
no_shorter [] = omega arith
no_shorter (c ∷ cs) =
    omega (arith, length-append (decompose Nfd c) (flat_map (decompose Nfd) cs), (IsFull-decompose Nfd c).some, no_shorter cs)

length-nfd : (cs : List ℕ) → length cs ≤ length (nfd cs)
unfolding decomposed
length-nfd cs = omega (arith, no_shorter cs, ap length (normalize-Nfd cs), length-canonical_order (flat_map (decompose Nfd) cs))

-- if form C is empty, so is the text
pub nfc_empty : (cs : List ℕ) → length (nfc cs) ≡ 0 → length cs ≡ 0
nfc_empty cs none = omega (arith, length-nfd cs, ap length (sym (nfd-nfc cs) ∙ ap nfd (no_element (nfc cs) none) ∙ normalize-nil Nfd))

pub nfc_some : (text : List ℕ) → IsUtf8 text → text ≢ [] → length (nfc (chars text)) ≢ 0
nfc_some text utf8 some none =
    some (sym (encodes-chars text utf8) ∙ ap encode_utf8_all (no_element (chars text) (nfc_empty (chars text) none)))

no_form : (text : List ℕ) → length (nfc (chars text)) ≡ 0 → word_of_text text ≡ Err Empty
unfolding word_of_text
no_form text none = cond-true _ _ _ (eq-eqb (length (nfc (chars text))) 0 none)

pub word_of_text-nil : word_of_text [] ≡ Err Empty
word_of_text-nil = no_form [] (ap length (ap nfc chars-nil ∙ normalize-nil Nfc))

pub word_of_text-empty : (text : List ℕ) → true ≡ (length text == 0) → word_of_text text ≡ Err Empty
word_of_text-empty text none = ap word_of_text (no_element text (eqb-true (length text) 0 (sym none))) ∙ word_of_text-nil

not_empty : (text : List ℕ) → false ≡ (length text == 0) → text ≢ []
not_empty text some none = false≢true (some ∙ ap (λ t. length t == 0) none)

-- the text's form C, as bytes
pub record IsFormOf (text bytes : List ℕ) : Type 0 where
  pub text_utf8 : IsUtf8 text
  pub some : text ≢ []
  pub utf8 : IsUtf8 bytes
  pub is : bytes ≡ encode_utf8_all (nfc (chars text))

pub form_of : (text bytes : List ℕ) → IsUtf8 text → false ≡ (length text == 0) → IsUtf8 bytes → bytes ≡ encode_utf8_all (nfc (chars text)) → IsFormOf text bytes
form_of text bytes text_utf8 some utf8 is = record { text_utf8 = text_utf8; some = not_empty text some; utf8 = utf8; is = is }

pub form_chars : (text bytes : List ℕ) → IsFormOf text bytes → chars bytes ≡ nfc (chars text)
form_chars text bytes f = sym (chars_from_encodes (nfc (chars text)) bytes f.utf8 (sym f.is))

form_some : (text bytes : List ℕ) → IsFormOf text bytes → eqb (length (nfc (chars text))) 0 ≡ false
form_some text bytes f = ne_eqb _ _ (nfc_some text f.text_utf8 f.some)

pub word_of_text-bad : (text bytes : List ℕ) → IsFormOf text bytes → list_any is_bad_character (chars bytes) ≡ true → word_of_text text ≡ Err BadCharacter
unfolding word_of_text
word_of_text-bad text bytes f bad =
    cond-false _ _ _ (form_some text bytes f)
    ∙ cond-true _ _ _ (ap (list_any is_bad_character) (sym (form_chars text bytes f)) ∙ bad)

pub word_of_text-long : (text bytes : List ℕ) → IsFormOf text bytes → list_any is_bad_character (chars bytes) ≡ false → 64 < length bytes → word_of_text text ≡ Err TooLong
unfolding word_of_text
word_of_text-long text bytes f good long =
    cond-false _ _ _ (form_some text bytes f)
    ∙ (cond-false _ _ _ (ap (list_any is_bad_character) (sym (form_chars text bytes f)) ∙ good)
    ∙ cond-true _ _ _ (lt-ltb 64 _ (subst (λ b. 64 < length b) f.is long)))

pub word_of_text-ok : (text bytes : List ℕ) → IsFormOf text bytes → list_any is_bad_character (chars bytes) ≡ false → length bytes ≤ 64 → word_of_text text ≡ Ok bytes
unfolding word_of_text
word_of_text-ok text bytes f good short =
    cond-false _ _ _ (form_some text bytes f)
    ∙ (cond-false _ _ _ (ap (list_any is_bad_character) (sym (form_chars text bytes f)) ∙ good)
    ∙ (cond-false _ _ _ (le-ltb 64 _ (subst (λ b. length b ≤ 64) f.is short))
    ∙ ap (λ b. Ok b) (sym f.is)))

pub form_is_word : (text bytes : List ℕ) → IsFormOf text bytes → list_any is_bad_character (chars bytes) ≡ false → length bytes ≤ 64 → IsWord bytes
form_is_word text bytes f good short =
    let same = form_chars text bytes f in
    record {
      in_form_c = ap nfc same ∙ nfc_idem (chars text) ∙ sym same;
      not_empty = λ none. nfc_some text f.text_utf8 f.some (ap length (sym same ∙ ap chars none ∙ chars-nil));
      no_bad_character = good;
      short = short;
    }
