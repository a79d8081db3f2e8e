use Rattle.household_model.proofs.ScriptPulls.{copies_do_script_pull}
use Rattle.household_model.proofs.laws.copies_do_script_pull.Goals as goal

pub returns : goal.returns
returns c = copies_do_script_pull
