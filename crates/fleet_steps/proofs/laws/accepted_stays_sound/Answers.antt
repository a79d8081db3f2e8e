use Rattle.fleet_model.proofs.SoundRuns.{stays_sound_and_kept}
use Rattle.fleet_steps.proofs.laws.accepted_stays_sound.Goals as goal

pub returns : goal.returns
returns c = λ text script read n. stays_sound_and_kept script n (c.accepted_are_scripts.ensures text script read)
