use Rattle.std.proofs.Common.{arith}
use Rattle.live_script.proofs.Played.{shows_next}
use Rattle.live_script.proofs.Others.{answered_all, gathered_more, gathered_none, shown_all, told_all}
use Rattle.live_script.proofs.opening.run_others.Goals as goal

pub loop-place-init : goal.loop-place-init
loop-place-init c = record {
  shown = c.requires.shown;
  few = c.requires.count;
  told = gathered_none c.args.script.now c.args.count _ (cc) c.requires.answered;
}

pub run-requires-clause-room : goal.run-requires-clause-room
run-requires-clause-room c = omega (arith, c.loop-place.invariant.few)

pub loop-place-preserved : goal.loop-place-preserved
loop-place-preserved c = let so_far = c.loop-place.invariant in record {
  shown = shows_next c.args.script.now c.loop-place.place _ c.command.result.now _ c.run.new.self c.command.ensures.command (omega arith) so_far.shown c.in_ok-report.ensures.ran c.run.ensures.long;
  few = omega (arith, c.run.ensures.count, so_far.few);
  told = gathered_more c.args.script.now c.args.count c.loop-place.place _ c.command.result.now _ _ c.command.ensures.command (omega arith) (omega arith) so_far.shown c.in_ok-report.ensures.report _ _ _ (omega arith) c.in_ok-push_report.ensures so_far.told;
}

pub returns-clause-shown : goal.returns-clause-shown
returns-clause-shown c = shown_all c.args.script.now c.loop-place.place c.loop-place.fleet (omega arith) c.loop-place.invariant.shown

pub returns-clause-answered : goal.returns-clause-answered
returns-clause-answered c = answered_all c.args.script.now c.args.count c.loop-place.place _ (omega arith) c.loop-place.invariant.told

pub returns-clause-told : goal.returns-clause-told
returns-clause-told c = told_all c.args.script.now c.args.count c.loop-place.place _ (omega arith) c.loop-place.invariant.told
