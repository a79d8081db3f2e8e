use Rattle.std.proofs.Common.{◌∙◌}
use Rattle.fleet_steps.proofs.NumberOrder.{next_number}
use Rattle.fleet_steps.proofs.plain.numbers_to.Goals as goal

pub loop-place-preserved : goal.loop-place-preserved
loop-place-preserved c = c.in_ok-push.ensures.items ∙ next_number c.loop-place.place c.loop-place.numbers.items c.loop-place.invariant
