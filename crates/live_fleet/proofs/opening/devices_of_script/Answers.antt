use Rattle.std.proofs.Common.{◌≤◌, ◌≡◌, length, arith, ◌∙◌}
use Rattle.std.specs.Prelude.{None}
use Rattle.photo_device.specs.Device.{Kept}
use Rattle.fleet_model.proofs.Effects.{all_push}
use Rattle.fleet_steps.proofs.Shown.{opening_more, opening_all, opening_long}
use Rattle.live_fleet.proofs.opening.devices_of_script.Goals as goal

pub loop-place-preserved : goal.loop-place-preserved
loop-place-preserved c =
    let device = c.in_ok-opening_device.field-0 in
    rw c.in_ok-push.ensures.items (opening_more c.args.script.now.filters c.loop-place.place _ _ c.filter.result.now c.filter.ensures c.loop-place.invariant.0 c.in_ok-opening_device.ensures.shown, all_push (λ (d : Kept). d.staged ≡ None) _ device c.loop-place.invariant.1 c.in_ok-opening_device.ensures.settled)

pub returns-clause-long : goal.returns-clause-long
returns-clause-long c =
    let filters = c.args.script.now.filters in
    let filtered = c.devices-place-end.ensures.filtered in
    let reached : length filters ≤ c.loop-place.place = omega (arith, filtered, c.devices-place-end.ensures.count) in
    opening_long filters 0 _ (opening_all filters c.loop-place.place _ reached c.loop-place.invariant.0) ∙ filtered
