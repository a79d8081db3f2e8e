use Rattle.work_ledger.specs.Stakes.{tally}
use Rattle.tool_memory_counts.proofs.ledgers.answer.Given as goal

abbrev pub ghosts-answer_of-B-Names : goal.ghosts-answer_of-B-Names
ghosts-answer_of-B-Names g a = record { names = a.blanks }

abbrev pub ghosts-answer_of-B-Books : goal.ghosts-answer_of-B-Books
ghosts-answer_of-B-Books g a = record { tally = tally 100_000 100_000 0 }
