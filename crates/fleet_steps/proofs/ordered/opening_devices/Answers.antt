use Rattle.std.proofs.Common.{◌≤◌, length, arith, ◌∙◌}
use Rattle.fleet_steps.proofs.Shown.{opening_more, opening_all, opening_long}
use Rattle.fleet_steps.proofs.ordered.opening_devices.Goals as goal

pub loop-place-preserved : goal.loop-place-preserved
loop-place-preserved c =
    rw c.in_ok-push.ensures.items (opening_more c.args.script.now.filters c.loop-place.place _ _ c.filter.result.now c.filter.ensures c.loop-place.invariant c.in_ok-opening_device.ensures.shown)

pub returns-clause-long : goal.returns-clause-long
returns-clause-long c =
    let filters = c.args.script.now.filters in
    let filtered = c.devices-place-end.ensures.filtered in
    let reached : length filters ≤ c.loop-place.place = omega (arith, filtered, c.devices-place-end.ensures.count) in
    opening_long filters 0 _ (opening_all filters c.loop-place.place _ reached c.loop-place.invariant) ∙ filtered
