use Rattle.work_ledger.specs.Stakes.{tally}
use Rattle.test_batches.proofs.ledgers.two_threads.Given as goal

abbrev pub ghosts-is_counted_on_two_threads-B-Names : goal.ghosts-is_counted_on_two_threads-B-Names
ghosts-is_counted_on_two_threads-B-Names g a = record { names = a.blanks }

abbrev pub ghosts-is_counted_on_two_threads-B-Books : goal.ghosts-is_counted_on_two_threads-B-Books
ghosts-is_counted_on_two_threads-B-Books g a = record { tally = tally 1 1 0 }
