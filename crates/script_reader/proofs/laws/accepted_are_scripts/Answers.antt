use Rattle.script_reader.proofs.Accepted.{accepted_are_scripts}
use Rattle.script_reader.proofs.laws.accepted_are_scripts.Goals as goal

pub returns : goal.returns
returns c = accepted_are_scripts
