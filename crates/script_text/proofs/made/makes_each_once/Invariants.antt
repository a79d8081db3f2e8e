use Rattle.script_text.proofs.Differing.{AreMadeOnce}
use Rattle.script_text.proofs.made.makes_each_once.Given as goal

abbrev pub invariant-loop-i : goal.invariant-loop-i
invariant-loop-i l = AreMadeOnce l.script.commands l.made l.i
