use Rattle.work_ledger.specs.Stakes.{tally}
use Rattle.tool_value_refusals.proofs.ledgers.verdict.Given as goal

abbrev pub ghosts-opens-B-Names : goal.ghosts-opens-B-Names
ghosts-opens-B-Names a = record { names = a.blanks }

abbrev pub ghosts-opens-B-Books : goal.ghosts-opens-B-Books
ghosts-opens-B-Books a = record { tally = tally 1 1 0 }
