use Rattle.live_fleet.proofs.Holders.{has_numbers}
use Rattle.live_fleet.proofs.laws.each_device_has_its_number.Goals as goal

pub returns : goal.returns
returns c = has_numbers c.args.fleet.now c.devices-devices.ensures.came
