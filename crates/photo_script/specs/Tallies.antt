-- How many versions a run's pulls moved, by its answers.
use Rattle.std.specs.Prelude.{ℕ}
use Rattle.photo_script.specs.Reports.{Answer, Plain, KnowledgeOf}
use Rattle.fleet_model.specs.Tallies.{moved_by_right}

-- the versions that a pull took and was handed; 0 for any other answer
abbrev pub moved_by : Answer → ℕ
moved_by (Plain answer) = moved_by_right answer
moved_by (KnowledgeOf n fragments) = 0
