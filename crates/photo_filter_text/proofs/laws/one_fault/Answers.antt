use Rattle.photo_filter_text.proofs.Verdict.{no-fault}
use Rattle.photo_filter_text.proofs.OneFault.{one-fault}
use Rattle.photo_filter_text.proofs.laws.one_fault.Goals as goal

pub returns : goal.returns
returns c = record { none = no-fault; one = one-fault }
