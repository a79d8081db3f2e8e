use Rattle.photo_script.proofs.WorkedExamples.{first_run, known_texts, later_epoch_texts, moved_texts, counts}
use Rattle.photo_script.proofs.laws.examples.Goals as goal

pub returns-clause-first_run : goal.returns-clause-first_run
returns-clause-first_run c = first_run

pub returns-clause-known_texts : goal.returns-clause-known_texts
returns-clause-known_texts c = known_texts

pub returns-clause-later_epoch_texts : goal.returns-clause-later_epoch_texts
returns-clause-later_epoch_texts c = later_epoch_texts

pub returns-clause-moved_texts : goal.returns-clause-moved_texts
returns-clause-moved_texts c = moved_texts

pub returns-clause-counts : goal.returns-clause-counts
returns-clause-counts c = counts
