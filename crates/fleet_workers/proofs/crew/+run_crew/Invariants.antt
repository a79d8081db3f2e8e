use Rattle.std.specs.Prelude.{vec_len}
use Rattle.fleet_workers.proofs.crew.+run_crew.Given as goal

abbrev pub decreases-run_crew : goal.decreases-run_crew
decreases-run_crew g l = vec_len l.groups
