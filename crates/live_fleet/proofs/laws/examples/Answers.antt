use Rattle.live_fleet.proofs.WorkedExamples.{edited_on_both, changed_by_hand, joins_later, comes_about_as_told, faults_are_due_as_told}
use Rattle.live_fleet.proofs.WorkedQuestions.{selects_of_both, asks_as_told}
use Rattle.live_fleet.proofs.laws.examples.Goals as goal

pub returns-clause-edited : goal.returns-clause-edited
returns-clause-edited c = edited_on_both

pub returns-clause-changed : goal.returns-clause-changed
returns-clause-changed c = changed_by_hand

pub returns-clause-joins : goal.returns-clause-joins
returns-clause-joins c = joins_later

pub returns-clause-came : goal.returns-clause-came
returns-clause-came c = comes_about_as_told

pub returns-clause-due : goal.returns-clause-due
returns-clause-due c = faults_are_due_as_told

pub returns-clause-selected : goal.returns-clause-selected
returns-clause-selected c = selects_of_both

pub returns-clause-asked : goal.returns-clause-asked
returns-clause-asked c = asks_as_told
