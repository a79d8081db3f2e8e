use Rattle.script_reader.proofs.WorkedExamples.{single_faults, two_faults, lines_and_fields, filters, changes, questions, later_epochs, moves, other_moves, many_devices}
use Rattle.script_reader.proofs.laws.examples.Goals as goal

pub returns-clause-single_faults : goal.returns-clause-single_faults
returns-clause-single_faults c = single_faults

pub returns-clause-two_faults : goal.returns-clause-two_faults
returns-clause-two_faults c = two_faults

pub returns-clause-lines_and_fields : goal.returns-clause-lines_and_fields
returns-clause-lines_and_fields c = lines_and_fields

pub returns-clause-filters : goal.returns-clause-filters
returns-clause-filters c = filters

pub returns-clause-changes : goal.returns-clause-changes
returns-clause-changes c = changes

pub returns-clause-questions : goal.returns-clause-questions
returns-clause-questions c = questions

pub returns-clause-later_epochs : goal.returns-clause-later_epochs
returns-clause-later_epochs c = later_epochs

pub returns-clause-moves : goal.returns-clause-moves
returns-clause-moves c = moves

pub returns-clause-other_moves : goal.returns-clause-other_moves
returns-clause-other_moves c = other_moves

pub returns-clause-many_devices : goal.returns-clause-many_devices
returns-clause-many_devices c = many_devices
