-- Machinery of the proofs: plans, orders and chains in progress.
use Rattle.std.specs.Prelude.{◌≡◌, true, ℕ, suc, ◌<◌, ◌≤◌, ◌==◌, if◌then◌else◌, List, [], ◌∷◌, ◌++◌, length, slice_index_or, reverse, Option, Some, None, IfSome, slice_index, slice_set}
use Rattle.std.specs.List.{AllByRecursion}
use Rattle.fleet_model.specs.Contents.{Contents, command_of, devices_of}
use Rattle.fleet_model.specs.declared.command.Command.{Command}
use Rattle.photo_batcher.specs.Related.{IsNumber, uses}
use Rattle.photo_batcher.specs.Orders.{times, KeepsOrder}
use Rattle.photo_batcher.specs.Batches.{IsLinked, last_of, members_to}
use Rattle.photo_batcher.specs.Greedy.{last_on, last_on_second, before_it, IsGreedyTo}
use Rattle.photo_batcher.specs.Plans.{Planned, after_in, entry_of}

-- the places of the devices of command n
pub record ArePlaces (script : Contents) (n first : ℕ) (second : Option ℕ) : Type 0 where
  pub command : Command
  pub is : command_of script n ≡ Some command
  pub first_is : first ≡ (devices_of command).0
  pub second_is : second ≡ (devices_of command).1
  pub first_in : first < length script.names
  pub second_in : IfSome second (λ k. k < length script.names)

-- the number that the list has for a second device, if there is one
abbrev pub read_second : List ℕ → Option ℕ → Option ℕ
read_second last None = None
read_second last (Some k) = Some (slice_index last k)

-- the list with the number stored for a second device, if there is one
abbrev pub with_place : Option ℕ → ℕ → List ℕ → List ℕ
with_place None n xs = xs
with_place (Some k) n xs = slice_set xs k n

-- n is above the numbers that the list has for the one or two devices
abbrev pub IsAbove : List ℕ → ℕ → ℕ → Option ℕ → Type 0
IsAbove last n first None = slice_index last first < n
IsAbove last n first (Some k) = (slice_index last first < n) × (slice_index last k < n)

-- the first n commands are planned, and `last` has the last of them on each device
pub record IsPlannedTo (script : Contents) (n : ℕ) (last batches afters : List ℕ) : Type 0 where
  pub many : length batches ≡ n
  pub many_afters : length afters ≡ n
  pub long : length last ≡ length script.names
  pub few : (k : ℕ) → k < n → slice_index batches k ≤ k
  pub greedy : IsGreedyTo script n (entry_of batches)
  pub lasts : (device : ℕ) → device < length script.names → slice_index last device ≡ last_on script n device
  pub before : (k : ℕ) (c : Command) → k < n → command_of script (suc k) ≡ Some c
      → slice_index afters k ≡ before_it (entry_of batches) (last_on script k (devices_of c).0) (last_on_second script k (devices_of c).1)

-- the batches with n added to one of them, which may be a new last batch
abbrev pub with_member : ℕ → ℕ → List (List ℕ) → List (List ℕ)
with_member batch n rows = if batch == length rows then rows ++ (n ∷ []) ∷ [] else slice_set rows batch (slice_index_or rows batch [] ++ n ∷ [])

-- the batches of the first n commands
pub record IsGroupedTo (batch : ℕ → ℕ) (n : ℕ) (rows : List (List ℕ)) : Type 0 where
  pub each : (b : ℕ) → slice_index_or rows b [] ≡ members_to batch n b
  pub below : (k : ℕ) → 0 < k → k ≤ n → batch k < length rows
  pub least : (count : ℕ) → ((k : ℕ) → 0 < k → k ≤ n → batch k < count) → length rows ≤ count

-- a plan of the first n commands
pub record IsDraft (script : Contents) (n : ℕ) (last batches afters : List ℕ) (rows : List (List ℕ)) : Type 0 where
  pub planned_to : IsPlannedTo script n last batches afters
  pub grouped : IsGroupedTo (entry_of batches) n rows
  pub few : length rows ≤ n

-- the chain, collected backwards from a command; its last element is the command found last
pub record IsGoneBack (p : Planned) (number last : ℕ) (chain : List ℕ) : Type 0 where
  pub linked : IsLinked (after_in p) (reverse chain)
  pub ends : last_of (reverse chain) ≡ Some number
  pub rest : List ℕ
  pub head : reverse chain ≡ last ∷ rest
  pub some : 0 < last
  pub within : last ≤ length p.batches

-- the numbers so far are of the script and in order, and `last` has the last of them on each device
pub record IsCheckedTo (script : Contents) (front last : List ℕ) : Type 0 where
  pub numbers : AllByRecursion (IsNumber script) front
  pub in_order : KeepsOrder script front
  pub long : length last ≡ length script.names
  pub most : (device k : ℕ) → device < length script.names → 0 < times k front → uses script k device ≡ true → k ≤ slice_index last device
  pub some : (device : ℕ) → device < length script.names → 0 < slice_index last device → (0 < times (slice_index last device) front) × (uses script (slice_index last device) device ≡ true)
