use Rattle.photo_filter_rules.proofs.Fitting.{fits_where_matched}
use Rattle.photo_filter_rules.proofs.laws.fits_where_matched.Goals as goal

pub returns : goal.returns
returns c = fits_where_matched
