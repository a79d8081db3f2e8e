-- Chains of related commands, batches, and schedules.
use Rattle.std.specs.Prelude.{◌≡◌, ℕ, zero, suc, ◌+◌, ◌<◌, ◌≤◌, ◌==◌, List, [], ◌∷◌, ◌++◌, length, filter, Option, Some, None, IsPermutation}
use Rattle.std.specs.List.{AllByRecursion}
use Rattle.fleet_model.specs.Contents.{Contents}
use Rattle.fleet_model.specs.Runs.{numbers_to}
use Rattle.photo_batcher.specs.Related.{IsNumber, AreRelated}

-- a chain: rising command numbers, each related to the next
abbrev pub IsChain : Contents → List ℕ → Type 0
IsChain script [] = Unit {0}
IsChain script (n ∷ []) = IsNumber script n
IsChain script (m ∷ n ∷ more) = IsNumber script m × (m < n) × AreRelated script m n × IsChain script (n ∷ more)

abbrev pub last_of : List ℕ → Option ℕ
last_of [] = None
last_of (n ∷ []) = Some n
last_of (m ∷ n ∷ more) = last_of (n ∷ more)

-- the list is a chain, and it ends with command n
pub record IsChainTo (script : Contents) (n : ℕ) (chain : List ℕ) : Type 0 where
  pub is : IsChain script chain
  pub ends : last_of chain ≡ Some n

-- the chain ends with command n, and no longer chain does
pub record IsLongestChainTo (script : Contents) (n : ℕ) (chain : List ℕ) : Type 0 where
  pub to : IsChainTo script n chain
  pub longest : (other : List ℕ) → IsChainTo script n other → length other ≤ length chain

-- command n's batch: one less than the length of the longest chain that ends with it
pub record IsBatch (script : Contents) (n batch : ℕ) : Type 0 where
  pub chain : List ℕ
  pub longest : IsLongestChainTo script n chain
  pub long : length chain ≡ batch + 1

-- `batch` gives each command its batch
abbrev pub AreBatches : Contents → (ℕ → ℕ) → Type 0
AreBatches script batch = (n : ℕ) → IsNumber script n → IsBatch script n (batch n)

-- `count` is the number of batches: the least number that is above every batch
pub record IsBatchCount (script : Contents) (batch : ℕ → ℕ) (count : ℕ) : Type 0 where
  pub below : (n : ℕ) → IsNumber script n → batch n < count
  pub least : (other : ℕ) → ((n : ℕ) → IsNumber script n → batch n < other) → count ≤ other

-- a schedule: of two related commands, the earlier one has the smaller place
abbrev pub IsSchedule : Contents → (ℕ → ℕ) → Type 0
IsSchedule script place = (m n : ℕ) → m < n → AreRelated script m n → place m < place n

-- m is an earlier command that is related to n and is in the batch just below
pub record IsJustBelow (script : Contents) (batch : ℕ → ℕ) (n m : ℕ) : Type 0 where
  pub earlier : m < n
  pub related : AreRelated script m n
  pub below : batch m + 1 ≡ batch n

-- n goes after the greatest such m; a command in batch 0 goes after none
abbrev pub IsAfter : Contents → (ℕ → ℕ) → ℕ → Option ℕ → Type 0
IsAfter script batch n None = batch n ≡ 0
IsAfter script batch n (Some m) = IsJustBelow script batch n m × ((k : ℕ) → IsJustBelow script batch n k → k ≤ m)

-- each number of the list goes after the number in front of it
abbrev pub IsLinked : (ℕ → Option ℕ) → List ℕ → Type 0
IsLinked after [] = Unit {0}
IsLinked after (n ∷ []) = Unit {0}
IsLinked after (m ∷ n ∷ more) = (after n ≡ Some m) × IsLinked after (n ∷ more)

-- the list leads from a command that goes after none up to n, and each goes after the one before it
pub record IsFollowed (after : ℕ → Option ℕ) (n : ℕ) (chain : List ℕ) : Type 0 where
  pub first : ℕ
  pub rest : List ℕ
  pub is : chain ≡ first ∷ rest
  pub none : after first ≡ None
  pub linked : IsLinked after chain
  pub ends : last_of chain ≡ Some n

-- the members of a batch among the first n commands, in rising order
abbrev pub members_to : (ℕ → ℕ) → ℕ → ℕ → List ℕ
members_to batch n b = filter (λ k. batch k == b) (numbers_to n)

abbrev pub members_of : Contents → (ℕ → ℕ) → ℕ → List ℕ
members_of script batch b = members_to batch (length script.commands) b

-- the members of `count` batches, from batch b on
abbrev pub batches_from : Contents → (ℕ → ℕ) → ℕ → ℕ → List (List ℕ)
batches_from script batch b zero = []
batches_from script batch b (suc count) = members_of script batch b ∷ batches_from script batch (suc b) count

-- the lists one after another, each permuted in any way
abbrev pub InTurn : List (List ℕ) → List ℕ → Type 0
InTurn [] order = order ≡ []
InTurn (list ∷ lists) order = (first : List ℕ) × (rest : List ℕ) × (order ≡ first ++ rest) × IsPermutation list first × InTurn lists rest

-- places rise along the list, so they all differ
abbrev pub HaveRisingPlaces : (ℕ → ℕ) → List ℕ → Type 0
HaveRisingPlaces place [] = Unit {0}
HaveRisingPlaces place (m ∷ more) = AllByRecursion (λ n. place m < place n) more × HaveRisingPlaces place more

-- the script's commands take at least `count` different places
pub record TakesPlaces (script : Contents) (place : ℕ → ℕ) (count : ℕ) : Type 0 where
  pub commands : List ℕ
  pub numbers : AllByRecursion (IsNumber script) commands
  pub rising : HaveRisingPlaces place commands
  pub many : length commands ≡ count
