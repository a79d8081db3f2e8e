use Rattle.std.proofs.Common.{refl}
use Rattle.fleet_steps.proofs.Shown.{opening_long}
use Rattle.live_fleet.proofs.Histories.{came_first}
use Rattle.live_fleet.proofs.fleet.Fleet.new.Goals as goal

pub invariant_of-result : goal.invariant_of-result
invariant_of-result c = came_first _ c.args.filters.now c.in_ok-devices.ensures.shown c.in_ok-devices.ensures.settled c.new.ensures.items refl

pub returns-clause-long : goal.returns-clause-long
returns-clause-long c = opening_long c.args.filters.now 0 _ c.in_ok-devices.ensures.shown
