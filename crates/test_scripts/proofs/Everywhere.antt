-- What holds at each index of a list holds of each element.
use Rattle.std.proofs.Common.{◌≡◌, ◌<◌, ◌+◌, ℕ, suc, List, [], ◌∷◌, length, get_or, subst, ⊎_elim, arith}
use Rattle.std.specs.List.{AllByRecursion}
use Rattle.std.proofs.lemmas.Bool.{cases_lt}

pub all_places : {X : Type 0} (P : X → Type 0) (xs : List X) (d : X) → ((k : ℕ) → k < length xs → P (get_or xs k d)) → AllByRecursion P xs
all_places P [] d at = tt
all_places P (x ∷ xs) d at = (at 0 (omega arith), all_places P xs d (λ k h. at (suc k) (omega arith)))

-- one more index
pub one_more : (Q : ℕ → Type 0) (i : ℕ) → ((k : ℕ) → k < i → Q k) → Q i → (k : ℕ) → k < i + 1 → Q k
one_more Q i before at k h = ⊎_elim (before k) (λ past. let same : i ≡ k = omega arith in subst Q same at) (cases_lt k i)
