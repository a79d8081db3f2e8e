use Rattle.fleet_model.proofs.SoundRuns.{stays_sound_and_kept}
use Rattle.fleet_model.proofs.laws.stays_sound_and_kept.Goals as goal

pub returns : goal.returns
returns c = stays_sound_and_kept
