-- How large a script may be.
use Rattle.std.specs.Prelude.{ℕ}

-- the most devices in a script
abbrev pub max_devices : ℕ
max_devices = 256

-- the most commands in a script
abbrev pub max_commands : ℕ
max_commands = 100_000
