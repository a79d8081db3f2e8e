use Rattle.household_model.proofs.ScriptPulls.{refiltering_begins_the_next}
use Rattle.household_model.proofs.laws.refiltering_begins_the_next.Goals as goal

pub returns : goal.returns
returns c = refiltering_begins_the_next
