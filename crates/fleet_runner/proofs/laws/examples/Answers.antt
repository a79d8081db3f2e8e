use Rattle.fleet_runner.proofs.WorkedExamples.{as_told}
use Rattle.fleet_runner.proofs.laws.examples.Goals as goal

pub returns : goal.returns
returns c = as_told c.answers_are_one.ensures c.examples.ensures.first_run.script
