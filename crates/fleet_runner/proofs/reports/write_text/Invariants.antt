use Rattle.std.proofs.Common.{length}
use Rattle.fleet_runner.proofs.Known.{IsWrittenTo}
use Rattle.fleet_runner.proofs.reports.write_text.Given as goal

abbrev pub invariant-loop-rest : goal.invariant-loop-rest
invariant-loop-rest g l = IsWrittenTo (g.W.Write.contents l.fn.writer) (g.W.Write.contents l.writer) l.rest l.text

abbrev pub decreases-loop-rest : goal.decreases-loop-rest
decreases-loop-rest g l = length l.rest
