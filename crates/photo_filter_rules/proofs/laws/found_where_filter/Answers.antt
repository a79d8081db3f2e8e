use Rattle.photo_filter_rules.proofs.Found.{found}
use Rattle.photo_filter_rules.proofs.laws.found_where_filter.Goals as goal

pub returns : goal.returns
returns c = found
