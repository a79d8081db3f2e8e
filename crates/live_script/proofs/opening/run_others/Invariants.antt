use Rattle.std.proofs.Common.{◌≤◌}
use Rattle.std.specs.Prelude.{string_bytes}
use Rattle.live_script.specs.Live.{ShowsRun, first_of}
use Rattle.live_script.proofs.Others.{IsGathered}
use Rattle.live_script.proofs.opening.run_others.Given as goal

-- the commands so far have run, and this was told of those behind the first ones
abbrev pub invariant-loop-place : goal.invariant-loop-place
invariant-loop-place l = record {
  shown : ShowsRun (first_of l.place l.script) l.fleet;
  few : l.fleet.commands ≤ l.place;
  told : IsGathered l.script l.count l.place (string_bytes l.text);
}
