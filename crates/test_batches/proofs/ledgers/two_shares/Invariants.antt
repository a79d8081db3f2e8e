use Rattle.work_ledger.specs.Stakes.{tally}
use Rattle.test_batches.proofs.ledgers.two_shares.Given as goal

abbrev pub ghosts-is_counted-B-Names : goal.ghosts-is_counted-B-Names
ghosts-is_counted-B-Names g a = record { names = a.blanks }

abbrev pub ghosts-is_counted-B-Books : goal.ghosts-is_counted-B-Books
ghosts-is_counted-B-Books g a = record { tally = tally 1 1 0 }
