use Rattle.fleet_steps.proofs.FewMoved.{pulls_move_what_was_made}
use Rattle.fleet_steps.proofs.laws.pulls_move_what_was_made.Goals as goal

pub returns : goal.returns
returns c = pulls_move_what_was_made
