use Rattle.script_text.proofs.Differing.{NamesAre}
use Rattle.script_text.proofs.name.has_names.Given as goal

abbrev pub invariant-loop-i : goal.invariant-loop-i
invariant-loop-i l = NamesAre l.script.names l.i
