-- How much is taken from a reader.
use Rattle.std.specs.Prelude.{ℕ, ◌≤◌, List, length, Option}
use Rattle.std.specs.Io.KnownBytes.{Consumes}

-- at most that many bytes were taken, from the front of the reader's bytes
pub record TakesAtMost (old new : Option (List ℕ)) (most : ℕ) : Type 0 where
  pub taken : List ℕ
  pub front : Consumes old new taken
  pub few : length taken ≤ most
