use Rattle.std.proofs.Common.{◌≤◌}
use Rattle.live_script.specs.Live.{IsAnswered, ShowsRun, first_of}
use Rattle.live_script.proofs.opening.run_first.Given as goal

-- the commands so far have run, and are answered
abbrev pub invariant-loop-place : goal.invariant-loop-place
invariant-loop-place l = record {
  shown : ShowsRun (first_of l.place l.script) l.fleet;
  few : l.fleet.commands ≤ l.place;
  answered : IsAnswered (first_of l.place l.script);
}
