-- Plans of scripts.
use Rattle.std.specs.Prelude.{◌≡◌, ℕ, zero, suc, ◌<◌, ◌≤◌, List, length, Option, Some, None, slice_index}
use Rattle.fleet_model.specs.Contents.{Contents}
use Rattle.fleet_model.specs.Limits.{max_commands}
use Rattle.photo_batcher.specs.Related.{IsNumber}
use Rattle.photo_batcher.specs.Batches.{AreBatches, IsBatchCount, IsAfter, batches_from}

-- a plan: for each command its batch and the command that it goes after (0 for none); and for each batch its members
pub record Planned : Type 0 where
  pub batches : List ℕ
  pub afters : List ℕ
  pub members : List (List ℕ)

abbrev pub planned : List ℕ → List ℕ → List (List ℕ) → Planned
planned batches afters members = record { batches = batches; afters = afters; members = members }

-- the list's value for number n, counted from 1; 0 for the number 0
abbrev pub entry_of : List ℕ → ℕ → ℕ
entry_of xs zero = 0
entry_of xs (suc n) = slice_index xs n

-- the number as an option, with 0 as none
abbrev pub none_or : ℕ → Option ℕ
none_or zero = None
none_or (suc n) = Some (suc n)

abbrev pub batch_in : Planned → ℕ → ℕ
batch_in p n = entry_of p.batches n

abbrev pub after_in : Planned → ℕ → Option ℕ
after_in p n = none_or (entry_of p.afters n)

-- p is the plan of the script
pub record IsPlan (script : Contents) (p : Planned) : Type 0 where
  pub each : length p.batches ≡ length script.commands
  pub each_after : length p.afters ≡ length script.commands
  pub batches_are : AreBatches script (batch_in p)
  pub afters_are : (n : ℕ) → IsNumber script n → IsAfter script (batch_in p) n (after_in p n)
  pub counted : IsBatchCount script (batch_in p) (length p.members)
  pub members_are : p.members ≡ batches_from script (batch_in p) 0 (length p.members)

-- what holds of every plan: it has at most as many commands as a script may have, and each goes after an earlier one or none
pub record IsShaped (p : Planned) : Type 0 where
  pub long : length p.afters ≡ length p.batches
  pub most : length p.batches ≤ max_commands
  pub few : length p.members ≤ max_commands
  pub back : (k : ℕ) → k < length p.afters → slice_index p.afters k ≤ k
