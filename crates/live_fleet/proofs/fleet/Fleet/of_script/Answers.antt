use Rattle.std.proofs.Common.{refl}
use Rattle.live_fleet.proofs.Histories.{came_first}
use Rattle.live_fleet.proofs.fleet.Fleet.of_script.Goals as goal

pub invariant_of-result : goal.invariant_of-result
invariant_of-result c = came_first _ c.args.script.now.filters c.in_ok-devices.ensures.shown c.in_ok-devices.ensures.settled c.new.ensures.items refl
