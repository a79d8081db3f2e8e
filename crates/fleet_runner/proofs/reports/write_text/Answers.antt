use Rattle.fleet_runner.proofs.Known.{written_more}
use Rattle.fleet_runner.proofs.reports.write_text.Goals as goal

pub loop-rest-preserved : goal.loop-rest-preserved
loop-rest-preserved g c =
    written_more _ (g.W.Write.contents c.loop-rest.writer) (g.W.Write.contents c.write.new.self) c.loop-rest.rest.now c.args.text.now _ c.loop-rest.invariant c.in-Ok.ensures.bytes
