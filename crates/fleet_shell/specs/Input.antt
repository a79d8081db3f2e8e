-- How a line is read, part by part.
use Rattle.std.specs.Prelude.{◌≡◌, ◌<◌, ◌≤◌, ℕ, List, length}
use Rattle.std.specs.Bool.{OnFalse, OnTrue}
use Rattle.script_reader.specs.Limits.{max_text_bytes}
use Rattle.fleet_shell.specs.declared.input.Begun.{Begun}
use Rattle.fleet_shell.specs.declared.input.Next.{Next}
use Rattle.fleet_shell.specs.declared.input.Next.TheVariants.{Line, TooLong, NoMemory, End, Failed}

-- these bytes of a line were read: all of them are kept, or they are more than a script may have, or memory was refused
pub record IsBegun (read : List ℕ) (begun : Begun) : Type 0 where
  pub kept : OnTrue begun.is_short (OnTrue begun.has_room (begun.line.items ≡ read))
  pub long : OnFalse begun.is_short (max_text_bytes < length read)
  pub within : length begun.line.items ≤ max_text_bytes
  pub part : length begun.line.items ≤ length read

-- what comes of a line with these bytes
abbrev pub IsNext : List ℕ → Next → Type 0
IsNext read (Line line) = (line.items ≡ read) × (length read ≤ max_text_bytes)
IsNext read TooLong = max_text_bytes < length read
IsNext read NoMemory = Unit {0}
IsNext read End = ⊥
IsNext read (Failed error) = ⊥
