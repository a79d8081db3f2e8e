use Rattle.std.proofs.Common.{◌≡◌, length}
use Rattle.script_reader.specs.Steps.{HasTaken}
use Rattle.script_reader.proofs.Turns.{taken_lines}
use Rattle.script_reader.proofs.reader.Reader.read_pieces.Given as goal

abbrev pub invariant-loop-piece : goal.invariant-loop-piece
invariant-loop-piece l = record {
  numbered : l.number ≡ length l.yielded;
  taken : HasTaken (taken_lines l.yielded) l.self;
}
