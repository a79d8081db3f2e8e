use Rattle.live_fleet.proofs.Histories.{one_later}
use Rattle.live_fleet.proofs.laws.runs_grow_by_commands.Goals as goal

pub returns : goal.returns
returns c = one_later
