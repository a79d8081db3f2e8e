-- Related commands: those that work on a common device.
use Rattle.std.specs.Prelude.{◌≡◌, ℕ, ◌<◌, ◌≤◌, Bool, true, false, ◌||◌, ◌==◌, length, Option, Some, None}
use Rattle.fleet_model.specs.Contents.{Contents, command_of, devices_of}
use Rattle.fleet_model.specs.declared.command.Command.{Command}

-- n is the number of a command of the script
abbrev pub IsNumber : Contents → ℕ → Type 0
IsNumber script n = (0 < n) × (n ≤ length script.commands)

-- there is a second device, and it is this one
abbrev pub is_device : Option ℕ → ℕ → Bool
is_device None device = false
is_device (Some k) device = k == device

-- the command works on the device, as its first or its second
abbrev pub works_on : Command → ℕ → Bool
works_on c device = (devices_of c).0 == device || is_device (devices_of c).1 device

-- the command of that number exists and works on the device
abbrev pub uses : Contents → ℕ → ℕ → Bool
uses script n device = by_cases (command_of script n)
  where
    by_cases : Option Command → Bool
    by_cases None = false
    by_cases (Some c) = works_on c device

-- commands m and n work on a common device
pub record AreRelated (script : Contents) (m n : ℕ) : Type 0 where
  pub device : ℕ
  pub first : uses script m device ≡ true
  pub second : uses script n device ≡ true
