use Rattle.photo_filter_rules.proofs.Covering.{covers_selects}
use Rattle.photo_filter_rules.proofs.laws.covers_selects.Goals as goal

pub returns : goal.returns
returns c = covers_selects
