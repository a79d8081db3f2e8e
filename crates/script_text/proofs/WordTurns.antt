-- Words separated by commas, appended one at a time.
use Rattle.std.proofs.Common.{◌≡◌, ◌<◌, ◌≤◌, ◌+◌, ◌∷◌, ◌++◌, ℕ, List, [], length, take, slice_get, Some, refl, sym, ap, subst, ◌∙◌, append_assoc, IsUtf8, codes, arith}
use Rattle.std.specs.List.{All, join_with_byte}
use Rattle.std.proofs.lemmas.List.{take_more, length-take-le, take_all}
use Rattle.std.proofs.lemmas.List.Elements.{All-push, recursion_from_All}
use Rattle.std.proofs.lemmas.Option.{get_or_from_slice_get, slice_get_within}
use Rattle.photo_record.specs.Word.{IsWordSet}
use Rattle.script_text.specs.Printable.{AreWords}

join-push : (c : ℕ) (xs : List (List ℕ)) (y : List ℕ) → 1 ≤ length xs → join_with_byte c (xs ++ y ∷ []) ≡ join_with_byte c xs ++ (c ∷ y)
join-push c [] y some = absurd (omega arith)
join-push c (x ∷ []) y some = refl
join-push c (x ∷ z ∷ zs) y some = ap (λ t. x ++ (c ∷ t)) (join-push c (z ∷ zs) y (omega arith)) ∙ sym (append_assoc x (c ∷ join_with_byte c (z ∷ zs)) (c ∷ y))

-- the first i words are appended to the text
pub record AreWritten (words : List (List ℕ)) (old now : List ℕ) (i : ℕ) : Type 0 where
  pub text : now ≡ old ++ join_with_byte 44 (take i words)
  pub utf8 : All IsUtf8 (take i words)

one-more : (words : List (List ℕ)) (i : ℕ) (w : List ℕ) → slice_get words i ≡ Some w → take (i + 1) words ≡ take i words ++ w ∷ []
one-more words i w at = take_more words i [] (slice_get_within words i w at) ∙ ap (λ x. take i words ++ x ∷ []) (get_or_from_slice_get words i w [] at)

pub written-more : (words : List (List ℕ)) (old now new w : List ℕ) (i : ℕ) → 1 ≤ i → AreWritten words old now i → slice_get words i ≡ Some w → IsUtf8 w → new ≡ (now ++ codes ",") ++ w → AreWritten words old new (i + 1)
written-more words old now new w i some h at utf8 is =
    let front = join_with_byte 44 (take i words) in
    let more = one-more words i w at in
    let within : i < length words = slice_get_within words i w at in
    let size : length (take i words) ≡ i = length-take-le i words (omega arith) in
    let regrouped : ((old ++ front) ++ codes ",") ++ w ≡ old ++ (front ++ (44 ∷ w)) = simp append_assoc in
    record {
      text = is ∙ ap (λ t. (t ++ codes ",") ++ w) h.text ∙ regrouped ∙ ap (λ t. old ++ t) (sym (ap (join_with_byte 44) more ∙ join-push 44 (take i words) w (omega arith)));
      utf8 = subst (All IsUtf8) (sym more) (All-push IsUtf8 (take i words) w h.utf8 utf8);
    }

pub words-all : (words : List (List ℕ)) (old now : List ℕ) (i : ℕ) → IsWordSet words → length words ≤ i → AreWritten words old now i → AreWords words
words-all words old now i set whole h = (set, recursion_from_All IsUtf8 words (subst (All IsUtf8) (take_all i words whole) h.utf8))
