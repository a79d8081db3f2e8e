-- Laws of reports.
use Rattle.std.specs.Prelude.{◌≡◌}
use Rattle.fleet_model.specs.Answers.{ModelReport}
use Rattle.photo_script.specs.Reports.{Answer, Tells}

-- each model report has at most one right answer
abbrev pub AnswersAreOne : Type 0
AnswersAreOne = (a b : Answer) (report : ModelReport) → Tells a report → Tells b report → a ≡ b
