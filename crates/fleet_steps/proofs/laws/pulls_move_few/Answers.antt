use Rattle.fleet_steps.proofs.FewMoved.{pulls_move_few}
use Rattle.fleet_steps.proofs.laws.pulls_move_few.Goals as goal

pub returns : goal.returns
returns c = pulls_move_few
