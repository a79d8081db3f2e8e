use Rattle.photo_filter_text.proofs.WantedAt.{wanted-at}
use Rattle.photo_filter_text.proofs.laws.memory_wanted.Goals as goal

pub returns : goal.returns
returns c = λ tokens wants. let at = wanted-at tokens wants in (at.before, at.goes_on, at.keeps)
