use Rattle.fleet_runner.proofs.Outputs.{one_output}
use Rattle.fleet_runner.proofs.laws.outputs_are_one.Goals as goal

pub returns : goal.returns
returns c = one_output c.answers_are_one.ensures
