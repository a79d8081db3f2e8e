use Rattle.photofleet_cli.proofs.WordExamples.{words_as_told, workers_asked, batches_asked, orders_asked}
use Rattle.photofleet_cli.proofs.laws.words.Goals as goal

pub returns : goal.returns
returns c = record { run = words_as_told; workers = workers_asked; batches = batches_asked; orders = orders_asked }
