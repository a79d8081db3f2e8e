use Rattle.std.proofs.Common.{◌≡◌, map, filter}
use Rattle.script_reader.specs.Lines.{is_not_empty}
use Rattle.script_reader.proofs.field.put_fields.Given as goal

abbrev pub invariant-loop-piece : goal.invariant-loop-piece
invariant-loop-piece l = map (λ f. f.now) l.fields.items ≡ filter is_not_empty (map (λ p. p.now) l.yielded)
