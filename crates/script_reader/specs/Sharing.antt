-- Machinery of the proofs, cited by contracts of private functions only: a cache of sets of words by their texts.
use Rattle.std.specs.Prelude.{◌≡◌, ℕ, ◌≤◌, List, [], ◌∷◌, length, String, string_bytes, Ok}
use Rattle.photo_record.specs.Reading.{words_of_text}

-- the most texts that the cache keeps
abbrev pub max_texts : ℕ
max_texts = 4096

-- each set is the one that its text denotes
abbrev pub AreRead : {Z : Type 0} → List (String Z × List (List ℕ)) → Type 0
AreRead [] = Unit {0}
AreRead (entry ∷ entries) = (words_of_text (string_bytes entry.0) ≡ Ok entry.1) × AreRead entries

-- so is each set of the cache, which has no more texts than it may
pub record AreKept {Z : Type 0} (entries : List (String Z × List (List ℕ))) : Type 0 where
  pub read : AreRead entries
  pub few : length entries ≤ max_texts
