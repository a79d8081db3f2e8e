-- How commands count.
use Rattle.std.specs.Prelude.{ℕ, List, Option, Some, None}
use Rattle.std.specs.List.{sum_by}
use Rattle.fleet_model.specs.declared.tally.Tally.{Tally}
use Rattle.fleet_model.specs.declared.tally.Totals.{Totals}
use Rattle.fleet_model.specs.declared.command.Command.{Command}
use Rattle.fleet_model.specs.Contents.{Contents, command_of}
use Rattle.fleet_model.specs.Answers.{Made, NotHeld, NotNarrower, Narrowed, Refiltered, Pulled, Preview, Listed, Conflicts, Knows}
use Rattle.photo_script.specs.Reports.{Plain, Answer, KnowledgeOf, answer_of}
use Rattle.fleet_model.specs.Tallies.{kind_of}
use Rattle.photo_script.specs.Tallies.{moved_by}
use Rattle.fleet_model.specs.declared.command.CommandKind.{CommandKind}
use Rattle.fleet_model.specs.declared.command.CommandKind.TheVariants as kind
use Rattle.work_ledger.specs.declared.kind.Kind.{Kind}
use Rattle.work_ledger.specs.declared.kind.Kind.TheVariants.{Change, Pull, Report}
use Rattle.work_ledger.specs.Stakes.{tally, totals, none_left}
use Rattle.fleet_workers.specs.declared.work.Done.{Done}

-- the tally of one command of that kind
abbrev pub one_of : CommandKind → Tally
one_of kind.Change = tally 1 0 0
one_of kind.Pull = tally 0 1 0
one_of kind.Question = tally 0 0 1

-- the tally of the command of that number, if there is one
abbrev pub one_at : Contents → ℕ → Tally
one_at script n = by_cases (command_of script n)
  where
    by_cases : Option Command → Tally
    by_cases None = none_left
    by_cases (Some c) = one_of (kind_of c)

-- the tally of the commands of those numbers
abbrev pub tally_at : Contents → List ℕ → Tally
tally_at script ns = tally (sum_by (λ n. (one_at script n).changes) ns) (sum_by (λ n. (one_at script n).pulls) ns) (sum_by (λ n. (one_at script n).reports) ns)

-- the kind of a command, by the report on it
abbrev pub kind_told : Answer → Kind
kind_told (Plain (Made v place)) = Change
kind_told (Plain NotHeld) = Change
kind_told (Plain NotNarrower) = Change
kind_told (Plain (Narrowed count)) = Change
kind_told (Plain (Refiltered stored waiting)) = Change
kind_told (Plain (Pulled counts)) = Pull counts.taken counts.handed
kind_told (Plain (Preview counts)) = Report
kind_told (Plain (Listed n store out)) = Report
kind_told (Plain (Conflicts n pictures)) = Report
kind_told (KnowledgeOf n fragments) = Report
kind_told (Plain (Knows known)) = Report

-- how many versions all reports together say were moved
abbrev pub moved_in : List Done → ℕ
moved_in done = sum_by (λ d. moved_by (answer_of d.report)) done

-- the totals of those commands and of what they moved
abbrev pub worked : Tally → ℕ → Totals
worked t moved = totals t.changes t.pulls t.reports moved
