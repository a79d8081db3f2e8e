use Rattle.std.proofs.Common.{◌+◌, ◌-◌, length}
use Rattle.fleet_runner.specs.PlanTexts.{lines_from, plan_text}
use Rattle.fleet_runner.proofs.Known.{IsWrittenTo}
use Rattle.fleet_runner.proofs.plans.write_lines.Given as goal

abbrev pub invariant-loop-place : goal.invariant-loop-place
invariant-loop-place g l = IsWrittenTo (g.W.Write.contents l.fn.writer) (g.W.Write.contents l.writer) (lines_from l.plan (l.place + 1) (length l.plan.batches - l.place)) (plan_text l.plan)
