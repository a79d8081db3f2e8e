use Rattle.photo_filter_text.specs.Grammar.{term, factor}
use Rattle.photo_filter_text.proofs.PrintedAgain.{printed}
use Rattle.photo_filter_text.proofs.laws.printed_again.Goals as goal

pub returns : goal.returns
returns c = λ tree sound short low. record { short = short; grammar = term (factor (printed tree sound)); low = low }
