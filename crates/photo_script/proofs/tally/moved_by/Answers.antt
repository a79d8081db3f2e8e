use Rattle.std.proofs.Common.{◌≤◌, ◌+◌, ◌*◌, arith}
use Rattle.fleet_model.specs.Limits.{max_commands}
use Rattle.fleet_model.specs.Tallies.{max_moved}
use Rattle.photo_script.proofs.Counted.{moved_so_far}
use Rattle.photo_script.proofs.tally.moved_by.Goals as goal

pub overflow_add-moved : goal.overflow_add-moved
overflow_add-moved c =
    let counts = c.in-Pulled.counts in
    let few : c.loop-report.moved + (counts.taken + counts.handed) ≤ max_moved * max_commands =
    moved_so_far c.args.reports.now c.loop-report.report-index c.loop-report.moved c.report-item.result counts c.loop-report-test.true c.requires.few c.requires.each c.report-item.is c.in-Pulled.is c.loop-report.invariant in
    omega arith

pub overflow_add-moved-in-Pulled : goal.overflow_add-moved-in-Pulled
overflow_add-moved-in-Pulled c =
    let counts = c.in-Pulled.counts in
    let few : c.loop-report.moved + (counts.taken + counts.handed) ≤ max_moved * max_commands =
    moved_so_far c.args.reports.now c.loop-report.report-index c.loop-report.moved c.report-item.result counts c.loop-report-test.true c.requires.few c.requires.each c.report-item.is c.in-Pulled.is c.loop-report.invariant in
    omega arith
