-- Machinery of the proofs: bounds on what a report says that a pull moved.
use Rattle.std.specs.Prelude.{◌≡◌, ◌≤◌}
use Rattle.photo_model.specs.declared.counts.PullCounts.{PullCounts}
use Rattle.fleet_model.specs.Limits.{max_commands}
use Rattle.fleet_model.specs.Answers.{ModelReport, Exactly, Pulled}

-- if the report is on a pull, the pull took at most as many versions as there can be commands, and was handed at most as many
abbrev pub MovesFew : ModelReport → Type 0
MovesFew report = (counts : PullCounts) → report ≡ Exactly (Pulled counts) → (counts.taken ≤ max_commands) × (counts.handed ≤ max_commands)
