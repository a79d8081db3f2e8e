use Rattle.household_model.proofs.Worked.{receipts_are_settled, receipts_come_too_late, nothing_happens, nothing_is_lost}
use Rattle.household_model.proofs.laws.examples.Goals as goal

pub returns : goal.returns
returns c = record { settled = receipts_are_settled; late = receipts_come_too_late; nothing = nothing_happens; lost = nothing_is_lost }
