-- Texts whose bytes aren't below a bound, so they have no LF or no space.
use Rattle.std.proofs.Common.{◌≡◌, ℕ, suc, ◌<◌, ◌≤◌, Bool, true, false, eqb, leb, List, [], ◌∷◌, ◌++◌, length, get_or, refl, ◌∙◌, arith}
use Rattle.std.specs.List.{All, list_all}
use Rattle.std.proofs.lemmas.Bool.{and_parts, and_from, ne_eqb, leb-true, le-leb}
use Rattle.std.proofs.lemmas.List.Elements.{All-cons, All-nil}
use Rattle.std.proofs.lemmas.List.Folds.{list_all-append}

-- no byte of the text is below the bound
abbrev pub is_from : ℕ → List ℕ → Bool
is_from low bs = list_all (λ b. leb low b) bs

pub from-append : (low : ℕ) (xs ys : List ℕ) → is_from low xs ≡ true → is_from low ys ≡ true → is_from low (xs ++ ys) ≡ true
from-append low xs ys h g = list_all-append (λ b. leb low b) xs ys ∙ and_from _ _ h g

pub from-cons : (low b : ℕ) (bs : List ℕ) → low ≤ b → is_from low bs ≡ true → is_from low (b ∷ bs) ≡ true
from-cons low b bs h g = and_from (leb low b) (is_from low bs) (le-leb low b h) g

pub from-weaker : (low high : ℕ) (bs : List ℕ) → low ≤ high → is_from high bs ≡ true → is_from low bs ≡ true
from-weaker low high [] le h = refl
from-weaker low high (b ∷ bs) le h =
    let parts = and_parts (leb high b) (is_from high bs) h in
    let at : high ≤ b = leb-true high b parts.0 in
    from-cons low b bs (omega arith) (from-weaker low high bs le parts.1)

pub from-places : (low : ℕ) (bs : List ℕ) → ((k : ℕ) → k < length bs → low ≤ get_or bs k 0) → is_from low bs ≡ true
from-places low [] h = refl
from-places low (b ∷ bs) h = from-cons low b bs (h 0 (omega arith)) (from-places low bs (λ k lt. h (suc k) (omega arith)))

-- a byte below the bound isn't in the text
pub none-is : (c low : ℕ) (bs : List ℕ) → c < low → is_from low bs ≡ true → All (λ b. eqb b c ≡ false) bs
none-is c low [] lt h = All-nil (λ b. eqb b c ≡ false)
none-is c low (b ∷ bs) lt h =
    let parts = and_parts (leb low b) (is_from low bs) h in
    let at : low ≤ b = leb-true low b parts.0 in
    All-cons (λ x. eqb x c ≡ false) b bs (ne_eqb b c (λ e. absurd (omega arith))) (none-is c low bs lt parts.1)
