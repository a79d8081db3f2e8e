use Rattle.household_model.proofs.PullEvents.{events_do_script_pull}
use Rattle.household_model.proofs.laws.events_do_script_pull.Goals as goal

pub returns : goal.returns
returns c = events_do_script_pull
