use Rattle.photo_script.proofs.OneAnswer.{one_answer}
use Rattle.photo_script.proofs.laws.answers_are_one.Goals as goal

pub returns : goal.returns
returns c = one_answer
