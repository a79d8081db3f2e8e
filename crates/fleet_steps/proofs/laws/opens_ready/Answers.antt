use Rattle.fleet_steps.proofs.ReadyRuns.{opens_ready}
use Rattle.fleet_steps.proofs.laws.opens_ready.Goals as goal

pub returns : goal.returns
returns c = opens_ready
