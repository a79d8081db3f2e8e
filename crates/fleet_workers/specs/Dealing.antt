-- How a batch is dealt to workers.
use Rattle.std.specs.Prelude.{◌≡◌, ℕ, ◌+◌, ◌<◌, ◌%◌, Bool, ◌==◌, if◌then◌else◌, List, [], ◌∷◌, ◌++◌, length, map, slice_index_or, slice_set, Vec, IsPermutation}
use Rattle.std.specs.List.{AllByRecursion}
use Rattle.photo_device.specs.Device.{Kept}
use Rattle.fleet_model.specs.Contents.{Contents}
use Rattle.fleet_workers.specs.declared.work.Job.{Job}
use Rattle.fleet_workers.specs.Batch.{IsJobAt, AreOut}
use Rattle.fleet_workers.specs.Jobs.{jobs_of, numbers_of}
use Rattle.photo_device.specs.Device.{Kept}
use Rattle.std.specs.Prelude.{Option}

-- the elements, in order, whose index passes the test; the first element has index i
abbrev pub at_places : {X : Type 0} → (ℕ → Bool) → ℕ → List X → List X
at_places test i [] = []
at_places test i (x ∷ xs) = if test i then x ∷ at_places test (i + 1) xs else at_places test (i + 1) xs

-- what worker k of `count` gets of a batch: the elements at each index i with i mod count = k
abbrev pub part_of : ℕ → ℕ → List ℕ → List ℕ
part_of count k members = at_places (λ i. (i % count) == k) 0 members

-- the rows with one more job at the end of one row
abbrev pub with_job : ℕ → Job → List (List Job) → List (List Job)
with_job place job rows = slice_set rows place (slice_index_or rows place [] ++ job ∷ [])

-- The batch is dealt to `count` groups, each with its part of the batch in order. All jobs have their commands' devices, which
-- the slots lack; no other slot has changed.
pub record IsDealt {Z : Type 0} (script : Contents) (members : List ℕ) (devices : List Kept) (count : ℕ) (groups : List (Vec Job Z)) (slots : List (Option Kept)) : Type 0 where
  pub many : length groups ≡ count
  pub parts : (k : ℕ) → k < count → numbers_of (slice_index_or (map (λ v. v.items) groups) k []) ≡ part_of count k members
  pub all : IsPermutation members (numbers_of (jobs_of groups))
  pub each : AllByRecursion (IsJobAt script devices) (jobs_of groups)
  pub out : AreOut script members devices slots
