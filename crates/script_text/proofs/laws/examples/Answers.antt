use Rattle.script_text.proofs.WorkedExamples.{each_kind, not_again}
use Rattle.script_text.proofs.laws.examples.Goals as goal

pub returns : goal.returns
returns c = record { each_kind = each_kind; not_again = not_again }
