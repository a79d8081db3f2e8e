-- How many entries of a list have a version.
use Rattle.std.proofs.Common.{◌≡◌, ◌+◌, ◌≤◌, Bool, true, false, cond, List, [], ◌∷◌, ◌⊎◌, inl, inr, refl, arith}
use Rattle.std.proofs.lemmas.Bool.{cases_Bool}
use Rattle.std.proofs.lemmas.List.Sums.{sum_by-cons}
use Rattle.photo_version.specs.Version.{Version, same_version}
use Rattle.photo_model.specs.Entry.{Entry}
use Rattle.fleet_model.specs.Members.{In, here, there}
use Rattle.fleet_model.specs.Sound.{occurrences}
use Rattle.fleet_model.proofs.Superseding.{same_version_is}

abbrev pub is_of : Version → Entry → Bool
is_of v e = same_version e.version v

-- no version stands in the list twice
abbrev pub AreOnce : List Entry → Type 0
AreOnce entries = (v : Version) → occurrences v entries ≤ 1

pub one_or_none : (b : Bool) → cond b 1 0 ≤ 1
one_or_none true = omega arith
one_or_none false = omega arith

pub none_of : (b : Bool) → b ≡ false → cond b 1 0 ≤ 0
none_of true h = cc
none_of false h = omega arith

-- no entry has the version, or some entry has it
pub found : (v : Version) (xs : List Entry) → (occurrences v xs ≡ 0) ⊎ ((x : Entry) × In x xs × (x.version ≡ v))
found v [] = inl refl
found v (x ∷ xs) = elim (cases_Bool (is_of v x)) [
  | inl same ↦ inr (x, here refl, same_version_is x.version v same)
  | inr other ↦ elim (found v xs) [
    | inl none ↦
        let a : occurrences v (x ∷ xs) ≡ cond (is_of v x) 1 0 + occurrences v xs = sum_by-cons (λ e. cond (is_of v e) 1 0) x xs in
        let b : cond (is_of v x) 1 0 ≤ 0 = none_of (is_of v x) other in
        inl (omega arith)
    | inr some ↦ inr (some.0, there some.1, some.2)
  ]
]
