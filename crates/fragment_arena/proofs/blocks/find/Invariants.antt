use Rattle.std.proofs.Common.{◌≡◌, ◌+◌, ◌-◌, length}
use Rattle.fragment_arena.specs.Rows.{before}
use Rattle.fragment_arena.proofs.blocks.find.Given as goal

abbrev pub invariant-loop-row : goal.invariant-loop-row
invariant-loop-row l = before l.blocks l.block + l.row ≡ l.place

abbrev pub decreases-loop-row : goal.decreases-loop-row
decreases-loop-row l = length l.blocks - l.block
