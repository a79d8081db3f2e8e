use Rattle.live_fleet.proofs.Histories.{came_sound}
use Rattle.live_fleet.proofs.laws.each_fleet_is_sound.Goals as goal

pub returns : goal.returns
returns c = came_sound c.args.fleet.now c.devices-devices.ensures.came
