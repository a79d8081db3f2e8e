use Rattle.live_fleet.proofs.AlongScripts.{along_scripts}
use Rattle.live_fleet.proofs.laws.runs_along_scripts.Goals as goal

pub returns : goal.returns
returns c = along_scripts
