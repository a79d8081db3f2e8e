use Rattle.photo_filter_text.specs.Grammar.{term, factor}
use Rattle.photo_filter_text.proofs.PrintedAgain.{printed}
use Rattle.script_text.proofs.laws.short_filter_fits.Goals as goal

pub returns : goal.returns
returns c = λ tree sound short low narrow. record { read = record { short = short; grammar = term (factor (printed tree sound)); low = low }; narrow = narrow }
