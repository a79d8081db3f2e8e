use Rattle.fleet_steps.proofs.ReadyRuns.{stays_ready}
use Rattle.fleet_steps.proofs.laws.stays_ready.Goals as goal

pub returns : goal.returns
returns c = stays_ready
