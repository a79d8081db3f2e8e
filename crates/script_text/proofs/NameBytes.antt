-- The bytes of a name, and its place among names.
use Rattle.std.proofs.Common.{◌≡◌, ◌≢◌, ℕ, ◌<◌, ◌≤◌, inl, inr, true, false, cond, ◌&&◌, eqb, leb, ltb, List, [], ◌∷◌, ◌++◌, length, get_or, Some, None, refl, sym, ap, ◌∙◌, arith}
use Rattle.std.specs.Char.{is_ascii_lowercase, is_ascii_digit}
use Rattle.std.specs.List.{All, AllByRecursion, list_all}
use Rattle.std.specs.Str.{bytes_eq}
use Rattle.std.proofs.lemmas.Bool.{and_parts, or_cases, leb-true, ne_eqb, cond-true, cond-false, lt-ltb, le-ltb, false_from_ne_true}
use Rattle.std.proofs.lemmas.List.{get_or_at, get_or_append_left, length-append}
use Rattle.std.proofs.lemmas.List.Elements.{All-cons, All-nil, All-get_or, All-from_recursion}
use Rattle.std.proofs.lemmas.List.Sums.{position_or_len_is}
use Rattle.std.proofs.lemmas.Slice.Eq.{bytes_eq-Decides}
use Rattle.script_reader.specs.Fields.{is_name, is_name_character, place_of}
use Rattle.script_reader.specs.Lines.{is_not_empty}
use Rattle.script_text.specs.Printable.{AllDiffer}
use Rattle.script_text.proofs.Bytes.{is_from, from-cons, from-weaker}
use Rattle.script_text.proofs.Cuts.{IsField, some-cons}

abbrev IsCharacter : ℕ → Type 0
IsCharacter c = (48 ≤ c) × (c ≢ 58)

between : (low high c : ℕ) → (leb low c && leb c high) ≡ true → (low ≤ c) × (c ≤ high)
between low high c h = let parts = and_parts (leb low c) (leb c high) h in (leb-true low c parts.0, leb-true c high parts.1)

letter-is : (c : ℕ) → is_ascii_lowercase c ≡ true → IsCharacter c
letter-is c h =
    let range = between 97 122 c h in
    let low : 97 ≤ c = range.0 in
    (omega arith, λ e. omega arith)

character-is : (c : ℕ) → is_name_character c ≡ true → IsCharacter c
character-is c h = elim (or_cases (is_ascii_lowercase c) (is_ascii_digit c) h) [
  | inl letter ↦ letter-is c letter
  | inr digit ↦
      let range = between 48 57 c digit in
      let low : 48 ≤ c = range.0 in
      let high : c ≤ 57 = range.1 in
      (low, λ e. omega arith)
]

characters-from : (cs : List ℕ) → list_all is_name_character cs ≡ true → is_from 48 cs ≡ true
characters-from [] h = refl
characters-from (c ∷ cs) h =
    let parts = and_parts (is_name_character c) (list_all is_name_character cs) h in
    from-cons 48 c cs (character-is c parts.0).0 (characters-from cs parts.1)

characters-no_colon : (cs : List ℕ) → list_all is_name_character cs ≡ true → All (λ b. eqb b 58 ≡ false) cs
characters-no_colon [] h = All-nil (λ b. eqb b 58 ≡ false)
characters-no_colon (c ∷ cs) h =
    let parts = and_parts (is_name_character c) (list_all is_name_character cs) h in
    All-cons (λ b. eqb b 58 ≡ false) c cs (ne_eqb c 58 (character-is c parts.0).1) (characters-no_colon cs parts.1)

name-parts : (c : ℕ) (cs : List ℕ) → is_name (c ∷ cs) ≡ true → (is_ascii_lowercase c ≡ true) × (list_all is_name_character cs ≡ true)
name-parts c cs h =
    let first = and_parts (is_ascii_lowercase c) (ltb (length cs) 16 && list_all is_name_character cs) h in
    (first.0, (and_parts (ltb (length cs) 16) (list_all is_name_character cs) first.1).1)

pub name-from : (name : List ℕ) → is_name name ≡ true → is_from 48 name ≡ true
name-from [] h = refl
name-from (c ∷ cs) h = let parts = name-parts c cs h in from-cons 48 c cs (letter-is c parts.0).0 (characters-from cs parts.1)

pub name-no_colon : (name : List ℕ) → is_name name ≡ true → All (λ b. eqb b 58 ≡ false) name
name-no_colon [] h = All-nil (λ b. eqb b 58 ≡ false)
name-no_colon (c ∷ cs) h =
    let parts = name-parts c cs h in
    All-cons (λ b. eqb b 58 ≡ false) c cs (ne_eqb c 58 (letter-is c parts.0).1) (characters-no_colon cs parts.1)

name-some : (name : List ℕ) → is_name name ≡ true → is_not_empty name ≡ true
name-some [] h = cc
name-some (c ∷ cs) h = some-cons c cs

pub name-field : (name : List ℕ) → is_name name ≡ true → IsField name
name-field name h = record { plain = from-weaker 33 48 name (omega arith) (name-from name h); some = name-some name h }

pub name-at : (names : List (List ℕ)) (k : ℕ) → AllByRecursion (λ name. is_name name ≡ true) names → k < length names → is_name (get_or names k []) ≡ true
name-at names k named within = All-get_or (λ name. is_name name ≡ true) names k [] within (All-from_recursion (λ name. is_name name ≡ true) names named)

-- Places

pub differ : (a b : List ℕ) → (b ≡ a → ⊥) → bytes_eq a b ≡ false
differ a b h = false_from_ne_true (bytes_eq a b) (λ t. h (sym ((bytes_eq-Decides a b).0 t)))

-- each name stands at its own place among names that differ
pub placed : (names : List (List ℕ)) → AllDiffer names → (k : ℕ) → k < length names → place_of names (get_or names k []) ≡ Some k
placed names apart k within =
    let name = get_or names k [] in
    let at = position_or_len_is (bytes_eq name) names k [] (omega arith) (λ j lt. differ name (get_or names j []) (apart j k [] lt within)) (λ lt. (bytes_eq-Decides name name).1 refl) in
    ap (λ n. cond (ltb n (length names)) (Some n) None) at ∙ cond-true (ltb k (length names)) (Some k) None (lt-ltb k (length names) within)

-- a name has no place among those before it
pub unplaced : (front : List (List ℕ)) (name : List ℕ) (rest : List (List ℕ)) → AllDiffer (front ++ name ∷ rest) → place_of front name ≡ None
unplaced front name rest apart =
    let all = front ++ name ∷ rest in
    let here : get_or all (length front) [] ≡ name = get_or_at front name rest [] (length front) refl in
    let within : length front < length all = omega (arith, length-append front (name ∷ rest)) in
    let other = λ (j : ℕ) (lt : j < length front). differ name (get_or front j []) (λ e. apart j (length front) [] lt within (get_or_append_left front (name ∷ rest) [] j lt ∙ e ∙ sym here)) in
    let at = position_or_len_is (bytes_eq name) front (length front) [] (omega arith) other (λ lt. absurd (omega arith)) in
    ap (λ n. cond (ltb n (length front)) (Some n) None) at ∙ cond-false (ltb (length front) (length front)) (Some (length front)) None (le-ltb (length front) (length front) (omega arith))
