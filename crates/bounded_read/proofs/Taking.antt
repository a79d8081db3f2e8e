-- Pieces that are taken one after another.
use Rattle.std.proofs.Common.{ℕ, ◌+◌, ◌≤◌, List, ◌++◌, length, length-append, arith}
use Rattle.std.specs.Prelude.{Option}
use Rattle.std.specs.Io.KnownBytes.{Consumes}
use Rattle.std.proofs.KnownBytes.{Consumes-trans}
use Rattle.bounded_read.specs.Taking.{TakesAtMost}

-- what was taken so far, and one more piece
pub taken_more : (old here new : Option (List ℕ)) (bytes piece : List ℕ) (most : ℕ) → Consumes old here bytes → Consumes here new piece → length bytes + length piece ≤ most → TakesAtMost old new most
taken_more old here new bytes piece most read more few = record {
  taken = bytes ++ piece;
  front = Consumes-trans old here new bytes piece read more;
  few = let long = length-append bytes piece in omega (arith, long);
}
