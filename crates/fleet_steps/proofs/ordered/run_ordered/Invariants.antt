use Rattle.std.proofs.Common.{take}
use Rattle.fleet_steps.specs.Running.{RunsTo}
use Rattle.fleet_steps.proofs.ordered.run_ordered.Given as goal

abbrev pub invariant-loop-number : goal.invariant-loop-number
invariant-loop-number l = RunsTo l.script (take l.number-index l.order) l.devices.items l.reports.items l.issued.items
