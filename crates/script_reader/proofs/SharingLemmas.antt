-- Sets of words that are kept by their texts: what is found under a text, and one set more.
use Rattle.std.proofs.Common.{◌≡◌, ℕ, ◌+◌, ◌<◌, ◌≤◌, Bool, true, false, cond, List, [], ◌∷◌, Some, refl, sym, ap, ◌∙◌, arith}
use Rattle.std.specs.Prelude.{String, string_bytes, Ok}
use Rattle.std.specs.Str.{bytes_eq}
use Rattle.std.specs.Map.{lookup}
use Rattle.std.specs.String.{string_eq}
use Rattle.std.proofs.lemmas.Slice.Eq.{bytes_eq-Decides}
use Rattle.indexmap.specs.IndexMap.{insert_entry}
use Rattle.photo_record.specs.Reading.{words_of_text}
use Rattle.script_reader.specs.Sharing.{AreRead}

module _ {Z : Type 0} where
  -- a set that is found under a text is the one that it denotes
  pub found_is_read : (text : List ℕ) (entries : List (String Z × List (List ℕ))) (words : List (List ℕ)) → AreRead entries
      → lookup (λ key. bytes_eq text (string_bytes key)) entries ≡ Some words → words_of_text text ≡ Ok words
  found_is_read text [] words read found = cc
  found_is_read text (entry ∷ entries) words read found =
      by (bytes_eq text (string_bytes entry.0)) refl (found_is_read text entries words read.1) found
    where
      by : (b : Bool) → bytes_eq text (string_bytes entry.0) ≡ b
          → (lookup (λ key. bytes_eq text (string_bytes key)) entries ≡ Some words → words_of_text text ≡ Ok words)
          → cond b (Some entry.1) (lookup (λ key. bytes_eq text (string_bytes key)) entries) ≡ Some words → words_of_text text ≡ Ok words
      by true p rest found = let same = (bytes_eq-Decides text (string_bytes entry.0)).0 p in cc
      by false p rest found = rest found

  -- one set more
  pub read_more : (key : String Z) (words : List (List ℕ)) (entries : List (String Z × List (List ℕ)))
      → words_of_text (string_bytes key) ≡ Ok words → AreRead entries → AreRead (insert_entry string_eq entries key words)
  read_more key words [] says read = (says, tt)
  read_more key words (entry ∷ entries) says read = by (string_eq key entry.0) refl (read_more key words entries says read.1)
    where
      by : (b : Bool) → string_eq key entry.0 ≡ b → AreRead (insert_entry string_eq entries key words)
          → AreRead (cond b ((entry.0, words) ∷ entries) (entry ∷ insert_entry string_eq entries key words))
      by true p more =
          let same = (bytes_eq-Decides (string_bytes key) (string_bytes entry.0)).0 p in
          (ap words_of_text (sym same) ∙ says, read.1)
      by false p more = (read.0, more)

-- where there is room for one text more, it is kept or has been already
pub still_few : (count now most : ℕ) (there : Bool) → now ≡ count + cond there 0 1 → count < most → now ≤ most
still_few count now most true counted room = omega arith
still_few count now most false counted room = omega arith
