-- How many workers there may be.
use Rattle.std.specs.Prelude.{ℕ}

abbrev pub max_workers : ℕ
max_workers = 256
