use Rattle.fleet_model.proofs.SoundWorked.{sound_as_told}
use Rattle.fleet_model.proofs.laws.sound_examples.Goals as goal

pub returns : goal.returns
returns c = sound_as_told
