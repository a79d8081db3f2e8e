use Rattle.std.proofs.Common.{refl}
use Rattle.std.specs.Arc.{arc_value}
use Rattle.fleet_workers.proofs.Opened.{ended}
use Rattle.fleet_workers.proofs.fleet.run_fleet.Goals as goal

pub returns-clause-ok : goal.returns-clause-ok
returns-clause-ok g c =
    let run = c.in_ok-slots.ensures.ok in
    ended (arc_value c.args.script.now) c.in_ok-slots.slots run.0 _ run.1 c.in_ok-devices.ensures refl c.in_ok-log.ensures run.2
