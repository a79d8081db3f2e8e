use Rattle.photo_filter_text.proofs.Worked.{the-tokens, the-trees, the-texts, the-faults, the-filters}
use Rattle.photo_filter_text.proofs.laws.examples.Goals as goal

pub returns : goal.returns
returns c = record { tokens = the-tokens; trees = the-trees; texts = the-texts; faults = the-faults; filters = the-filters }
