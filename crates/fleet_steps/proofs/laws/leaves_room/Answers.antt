use Rattle.fleet_steps.proofs.Runs.{leaves_room}
use Rattle.fleet_steps.proofs.laws.leaves_room.Goals as goal

pub returns : goal.returns
returns c = leaves_room
