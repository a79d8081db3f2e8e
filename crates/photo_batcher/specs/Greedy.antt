-- Machinery of the proofs: a command's batch, and the command that it goes after, from the last commands on its devices.
use Rattle.std.specs.Prelude.{◌≡◌, ℕ, zero, suc, ◌+◌, ◌<◌, max, if◌then◌else◌, nat_lt, Option, Some, None}
use Rattle.fleet_model.specs.Contents.{Contents, command_of, devices_of}
use Rattle.fleet_model.specs.declared.command.Command.{Command}
use Rattle.photo_batcher.specs.Related.{uses}

-- the last of the first n commands that works on the device, or 0 if there is none
abbrev pub last_on : Contents → ℕ → ℕ → ℕ
last_on script zero device = 0
last_on script (suc n) device = if uses script (suc n) device then suc n else last_on script n device

abbrev pub last_on_second : Contents → ℕ → Option ℕ → Option ℕ
last_on_second script n None = None
last_on_second script n (Some device) = Some (last_on script n device)

-- the first free batch after a command; 0 if there is no command
abbrev pub free_behind : (ℕ → ℕ) → ℕ → ℕ
free_behind batch zero = 0
free_behind batch (suc n) = batch (suc n) + 1

-- the first free batch after the last commands on one or two devices
abbrev pub first_free : (ℕ → ℕ) → ℕ → Option ℕ → ℕ
first_free batch last None = free_behind batch last
first_free batch last (Some other) = max (free_behind batch last) (free_behind batch other)

-- of the last commands on one or two devices, the one in the higher batch, and the later one if both are in one batch; 0 if
-- there is none
abbrev pub before_it : (ℕ → ℕ) → ℕ → Option ℕ → ℕ
before_it batch last None = last
before_it batch last (Some other) =
    if nat_lt (free_behind batch other) (free_behind batch last) then last
    else (if nat_lt (free_behind batch last) (free_behind batch other) then other else max last other)

-- each of the first m commands is in the first batch that is free on its devices
abbrev pub IsGreedyTo : Contents → ℕ → (ℕ → ℕ) → Type 0
IsGreedyTo script m batch = (n : ℕ) (c : Command) → n < m → command_of script (suc n) ≡ Some c
    → batch (suc n) ≡ first_free batch (last_on script n (devices_of c).0) (last_on_second script n (devices_of c).1)
