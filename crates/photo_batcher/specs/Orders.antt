-- Lawful orders of a script's commands, and when two runs are the same.
use Rattle.std.specs.Prelude.{◌≡◌, ℕ, ◌<◌, ◌==◌, List, [], ◌∷◌, count_by, IsPermutation}
use Rattle.std.specs.List.{AllByRecursion}
use Rattle.fleet_model.specs.Contents.{Contents}
use Rattle.fleet_model.specs.Runs.{Fleet}
use Rattle.photo_batcher.specs.Related.{IsNumber, AreRelated}

-- how often the number stands in the list
abbrev pub times : ℕ → List ℕ → ℕ
times n order = count_by (λ k. k == n) order

-- of two related commands, the earlier one comes first
abbrev pub KeepsOrder : Contents → List ℕ → Type 0
KeepsOrder script [] = Unit {0}
KeepsOrder script (m ∷ more) = AllByRecursion (λ n. AreRelated script m n → m < n) more × KeepsOrder script more

-- a lawful order: it has the number of each command of the script once, and no other number;
-- and related commands stand in the order of their numbers
pub record IsLawful (script : Contents) (order : List ℕ) : Type 0 where
  pub numbers : AllByRecursion (IsNumber script) order
  pub once : (n : ℕ) → IsNumber script n → times n order ≡ 1
  pub in_order : KeepsOrder script order

-- the runs give the same devices and the same reports by number, and their logs have the same entries in any order
pub record AreSameRuns (one other : Fleet) : Type 0 where
  pub devices : one.devices ≡ other.devices
  pub reports : one.reports ≡ other.reports
  pub log : IsPermutation other.log one.log
