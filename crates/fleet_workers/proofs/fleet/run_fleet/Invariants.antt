use Rattle.std.specs.Arc.{arc_value}
use Rattle.fleet_model.specs.Tallies.{tally_of}
use Rattle.fleet_workers.proofs.fleet.run_fleet.Given as goal

abbrev pub ghosts-run_counted-B-Names : goal.ghosts-run_counted-B-Names
ghosts-run_counted-B-Names g a = record { names = a.blanks }

abbrev pub ghosts-run_counted-B-Books : goal.ghosts-run_counted-B-Books
ghosts-run_counted-B-Books g a = record { tally = tally_of (arc_value a.script.now) }
