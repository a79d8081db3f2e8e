use Rattle.std.proofs.Common.{◌≡◌, map, filter, []}
use Rattle.script_reader.specs.Lines.{is_not_empty}
use Rattle.fleet_shell.proofs.kind.kind_of_text.Given as goal

abbrev pub invariant-loop-piece : goal.invariant-loop-piece
invariant-loop-piece l = filter is_not_empty (map (λ p. p.now) l.yielded) ≡ []
