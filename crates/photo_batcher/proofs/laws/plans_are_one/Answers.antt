use Rattle.photo_batcher.proofs.OnePlan.{plans_are_one}
use Rattle.photo_batcher.proofs.laws.plans_are_one.Goals as goal

pub returns : goal.returns
returns c = plans_are_one
