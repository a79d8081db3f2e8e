use Rattle.fleet_model.proofs.SoundRuns.{stays_sound_in_any_order}
use Rattle.fleet_model.proofs.laws.stays_sound_in_any_order.Goals as goal

pub returns : goal.returns
returns c = stays_sound_in_any_order
