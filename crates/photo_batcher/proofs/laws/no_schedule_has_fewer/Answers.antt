use Rattle.photo_batcher.proofs.OnePlan.{no_schedule_has_fewer}
use Rattle.photo_batcher.proofs.laws.no_schedule_has_fewer.Goals as goal

pub returns : goal.returns
returns c = no_schedule_has_fewer
