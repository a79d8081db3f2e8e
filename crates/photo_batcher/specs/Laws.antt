-- Laws of lawful orders, batches and plans.
use Rattle.std.specs.Prelude.{◌≡◌, ◌≢◌, ℕ, ◌<◌, ◌≤◌, List, length, Option}
use Rattle.fleet_model.specs.Contents.{Contents}
use Rattle.fleet_model.specs.Runs.{Fleet, run_in_order, run}
use Rattle.fleet_model.specs.Tallies.{totals_of}
use Rattle.photo_batcher.specs.Related.{IsNumber, AreRelated}
use Rattle.photo_batcher.specs.Orders.{IsLawful, AreSameRuns}
use Rattle.photo_batcher.specs.Batches.{IsLongestChainTo, IsBatch, AreBatches, IsSchedule, IsAfter, IsFollowed, TakesPlaces, batches_from, InTurn}
use Rattle.photo_batcher.specs.Plans.{Planned, IsPlan}

-- a lawful order gives the same run as the order of the script
abbrev pub LawfulOrdersAreTheRun : Type 0
LawfulOrdersAreTheRun = (script : Contents) (order : List ℕ) → IsLawful script order → AreSameRuns (run_in_order script order) (run script)

-- same runs have the same totals
abbrev pub SameRunsHaveOneTotal : Type 0
SameRunsHaveOneTotal = (script : Contents) (one other : Fleet) → AreSameRuns one other → totals_of script one ≡ totals_of script other

-- each command has at most one batch
abbrev pub BatchesAreOne : Type 0
BatchesAreOne = (script : Contents) (n one other : ℕ) → IsBatch script n one → IsBatch script n other → one ≡ other

-- the batches are a schedule
abbrev pub BatchesAreASchedule : Type 0
BatchesAreASchedule = (script : Contents) (batch : ℕ → ℕ) → AreBatches script batch → IsSchedule script batch

-- no schedule gives a command a place below its batch
abbrev pub BatchesAreLeast : Type 0
BatchesAreLeast = (script : Contents) (place : ℕ → ℕ) (n batch : ℕ) → IsSchedule script place → IsBatch script n batch → batch ≤ place n

-- no two commands of one batch are related
abbrev pub BatchesAreApart : Type 0
BatchesAreApart = (script : Contents) (batch : ℕ → ℕ) (m n : ℕ) → AreBatches script batch → batch m ≡ batch n → m ≢ n → AreRelated script m n → ⊥

-- the batches in turn, each in whatever order, are a lawful order
abbrev pub BatchesInTurnAreLawful : Type 0
BatchesInTurnAreLawful = (script : Contents) (batch : ℕ → ℕ) (count : ℕ) (order : List ℕ)
    → AreBatches script batch → ((n : ℕ) → IsNumber script n → batch n < count) → InTurn (batches_from script batch 0 count) order → IsLawful script order

-- going back from a command, each time to the one that it goes after, gives a longest chain
abbrev pub FollowedChainsAreLongest : Type 0
FollowedChainsAreLongest = (script : Contents) (batch : ℕ → ℕ) (after : ℕ → Option ℕ) (n : ℕ) (chain : List ℕ)
    → AreBatches script batch → ((k : ℕ) → IsNumber script k → IsAfter script batch k (after k)) → IsNumber script n → IsFollowed after n chain
    → IsLongestChainTo script n chain

-- a script has at most one plan
abbrev pub PlansAreOne : Type 0
PlansAreOne = (script : Contents) (one other : Planned) → IsPlan script one → IsPlan script other → one ≡ other

-- every schedule takes at least as many different places as a plan has batches
abbrev pub NoScheduleHasFewer : Type 0
NoScheduleHasFewer = (script : Contents) (place : ℕ → ℕ) (p : Planned) → IsSchedule script place → IsPlan script p → TakesPlaces script place (length p.members)

-- the batches of a plan in turn, each in whatever order, are a lawful order
abbrev pub PlansInTurnAreLawful : Type 0
PlansInTurnAreLawful = (script : Contents) (p : Planned) (order : List ℕ) → IsPlan script p → InTurn p.members order → IsLawful script order
