use Rattle.std.proofs.Common.{◌≡◌, take}
use Rattle.fragment_arena.specs.Rows.{rows_of}
use Rattle.fragment_arena.proofs.blocks.copies_of.Given as goal

abbrev pub invariant-loop-i : goal.invariant-loop-i
invariant-loop-i l = rows_of l.copies.items ≡ rows_of (take l.i l.blocks)
