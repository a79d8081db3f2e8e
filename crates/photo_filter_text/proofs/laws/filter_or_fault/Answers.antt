use Rattle.photo_filter_text.proofs.Judged.{filter-or-fault}
use Rattle.photo_filter_text.proofs.laws.filter_or_fault.Goals as goal

pub returns : goal.returns
returns c = filter-or-fault
