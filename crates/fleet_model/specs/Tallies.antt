-- How many commands of each kind a script has, and how many versions its pulls move.
use Rattle.std.specs.Prelude.{ℕ, ◌+◌, ◌*◌, Bool, true, false, List, count_by}
use Rattle.std.specs.List.{sum_by}
use Rattle.fleet_model.specs.Limits.{max_commands}
use Rattle.fleet_model.specs.Contents.{Contents}
use Rattle.fleet_model.specs.Answers.{RightAnswer, Made, NotHeld, NotNarrower, Narrowed, Refiltered, Pulled, Preview, Listed, Conflicts, Knows, ModelReport, Exactly, KnowledgeIs}
use Rattle.fleet_model.specs.Runs.{Fleet, reports_of}
use Rattle.fleet_model.specs.declared.command.Command.{Command}
use Rattle.fleet_model.specs.declared.command.Command.TheVariants as command
use Rattle.fleet_model.specs.declared.command.CommandKind.{CommandKind}
use Rattle.fleet_model.specs.declared.command.CommandKind.TheVariants.{Change, Pull, Question}
use Rattle.fleet_model.specs.declared.tally.Tally.{Tally}
use Rattle.fleet_model.specs.declared.tally.Totals.{Totals}

-- a command changes a device, is a pull, or asks for a report
abbrev pub kind_of : Command → CommandKind
kind_of (command.New device picture record_) = Change
kind_of (command.Edit device picture record_) = Change
kind_of (command.Remove device picture) = Change
kind_of (command.Pull target source) = Pull
kind_of (command.Narrow device filter) = Change
kind_of (command.Refilter device filter) = Change
kind_of (command.Preview target source) = Question
kind_of (command.List device) = Question
kind_of (command.Conflicts device) = Question
kind_of (command.Knowledge device) = Question
kind_of (command.Knows device picture v) = Question

abbrev pub is_change : CommandKind → Bool
is_change Change = true
is_change Pull = false
is_change Question = false

abbrev pub is_pull : CommandKind → Bool
is_pull Change = false
is_pull Pull = true
is_pull Question = false

abbrev pub is_question : CommandKind → Bool
is_question Change = false
is_question Pull = false
is_question Question = true

-- the number of commands of each kind
abbrev pub tally_of_commands : List Command → Tally
tally_of_commands commands = record {
  changes = count_by (λ c. is_change (kind_of c)) commands;
  pulls = count_by (λ c. is_pull (kind_of c)) commands;
  reports = count_by (λ c. is_question (kind_of c)) commands;
}

abbrev pub tally_of : Contents → Tally
tally_of script = tally_of_commands script.commands

-- how many versions a pull took and was handed; 0 for any other answer
abbrev pub moved_by_right : RightAnswer → ℕ
moved_by_right (Made v place) = 0
moved_by_right NotHeld = 0
moved_by_right NotNarrower = 0
moved_by_right (Narrowed count) = 0
moved_by_right (Refiltered stored waiting) = 0
moved_by_right (Pulled counts) = counts.taken + counts.handed
moved_by_right (Preview counts) = 0
moved_by_right (Listed n store out) = 0
moved_by_right (Conflicts n pictures) = 0
moved_by_right (Knows known) = 0

abbrev pub moved_by_report : ModelReport → ℕ
moved_by_report (Exactly answer) = moved_by_right answer
moved_by_report (KnowledgeIs device known) = 0

-- how many versions the pulls of a run moved
abbrev pub moved_of : Fleet → ℕ
moved_of fleet = sum_by moved_by_report (reports_of fleet)

-- the tally of a script, with the number of versions that its pulls moved
abbrev pub totals_of : Contents → Fleet → Totals
totals_of script fleet = record {
  changes = (tally_of script).changes;
  pulls = (tally_of script).pulls;
  reports = (tally_of script).reports;
  moved = moved_of fleet;
}

-- the most versions that one pull moves: it takes at most one for each command, and is handed as many at most
abbrev pub max_moved : ℕ
max_moved = 2 * max_commands
