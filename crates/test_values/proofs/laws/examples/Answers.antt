use Rattle.test_values.proofs.WorkedExamples.{taken_out_as_told, gathered_as_told}
use Rattle.test_values.proofs.laws.examples.Goals as goal

pub returns-clause-taken : goal.returns-clause-taken
returns-clause-taken c = taken_out_as_told

pub returns-clause-gathered : goal.returns-clause-gathered
returns-clause-gathered c = gathered_as_told
