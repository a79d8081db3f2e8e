-- The worked devices, by computation.
use Rattle.std.proofs.Common.{refl}
use Rattle.fleet_model.specs.SoundExamples.{SoundIsAsTold}

pub sound_as_told : SoundIsAsTold
sound_as_told = record {
  stored = refl;
  not_stored = refl;
  not_selected = refl;
  outdated = refl;
  newer_unknown = refl;
  nothing_known = refl;
  unknown_stored = refl;
  knows_without_storing = refl;
  knows_no_more = refl;
  knows_still = refl;
  kept_waiting = refl;
  lost = refl;
  older_gone = refl;
  newer_lost = refl;
}
