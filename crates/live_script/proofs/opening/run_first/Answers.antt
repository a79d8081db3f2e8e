use Rattle.std.proofs.Common.{arith}
use Rattle.live_script.proofs.Played.{shows_next, answered_next}
use Rattle.live_script.proofs.opening.run_first.Goals as goal

pub run-requires-clause-room : goal.run-requires-clause-room
run-requires-clause-room c = omega (arith, c.loop-place.invariant.few, c.requires.few)

pub loop-place-preserved : goal.loop-place-preserved
loop-place-preserved c = let so_far = c.loop-place.invariant in record {
  shown = shows_next c.args.script.now c.loop-place.place _ c.command.result.now _ c.run.new.self c.command.ensures.command (omega arith) so_far.shown c.in_ok-run.ensures.ran c.run.ensures.long;
  few = omega (arith, c.run.ensures.count, so_far.few);
  answered = answered_next c.args.script.now c.loop-place.place _ c.command.result.now _ _ c.command.ensures.command (omega arith) so_far.shown c.in_ok-run.ensures.report so_far.answered;
}
