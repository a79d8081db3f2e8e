use Rattle.live_fleet.proofs.Holders.{holders_know}
use Rattle.live_fleet.proofs.laws.holders_know.Goals as goal

pub returns : goal.returns
returns c = holders_know c.args.fleet.now c.devices-devices.ensures.came
