-- Bytes that a writer holds.
use Rattle.std.proofs.Common.{◌≡◌, ℕ, ◌-◌, List, ◌++◌, length, take, drop, ap, ◌∙◌, append_assoc, arith}
use Rattle.std.specs.Prelude.{Option}
use Rattle.std.specs.Io.KnownBytes.{Appends}
use Rattle.std.proofs.KnownBytes.{Appends-trans}
use Rattle.std.proofs.lemmas.List.{take-append-drop, take_all, length-drop}

-- a front of the text has been written, and `rest` is left
pub record IsWrittenTo (before here : Option (List ℕ)) (rest text : List ℕ) : Type 0 where
  pub front : List ℕ
  pub whole : front ++ rest ≡ text
  pub written : Appends before here front

pub written_more : (before here after : Option (List ℕ)) (rest text : List ℕ) (n : ℕ) → IsWrittenTo before here rest text → Appends here after (take n rest) → IsWrittenTo before after (take (length rest - n) (drop n rest)) text
written_more before here after rest text n so_far more =
    let left : take (length rest - n) (drop n rest) ≡ drop n rest = take_all (length rest - n) (drop n rest) (let long = length-drop n rest in omega (arith, long)) in
    record {
      front = so_far.front ++ take n rest;
      whole = append_assoc so_far.front (take n rest) _ ∙ ap (λ l. so_far.front ++ l) (ap (λ l. take n rest ++ l) left ∙ take-append-drop n rest) ∙ so_far.whole;
      written = Appends-trans before here after so_far.front (take n rest) so_far.written more;
    }
