use Rattle.std.proofs.Common.{◌≡◌, ◌<◌, ◌++◌, map}
use Rattle.std.specs.Prelude.{Ok}
use Rattle.fleet_model.specs.Contents.{Contents}
use Rattle.script_reader.specs.Growing.{IsGrown, script_in}
use Rattle.script_reader.specs.Reading.{script_of}
use Rattle.live_script.specs.Live.{IsLonger}
use Rattle.live_script.proofs.LinesBehind.{each_behind}
use Rattle.live_script.proofs.several.script_with.Given as goal

-- the lines so far are read
abbrev pub invariant-loop-line : goal.invariant-loop-line
invariant-loop-line l = record {
  grown : IsGrown (l.text ++ each_behind (map (λ p. p.now) l.yielded)) l.script;
  some : 0 < l.script.lines;
  longer : (old : Contents) → script_of l.text ≡ Ok old → IsLonger old (script_in l.script);
}
