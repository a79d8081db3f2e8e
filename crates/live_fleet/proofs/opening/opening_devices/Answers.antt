use Rattle.std.proofs.Common.{◌≡◌, length, refl}
use Rattle.std.specs.Prelude.{Some, None, slice_get}
use Rattle.std.proofs.lemmas.Option.{slice_get_read}
use Rattle.photo_device.specs.Device.{Kept}
use Rattle.fleet_model.proofs.Effects.{all_push}
use Rattle.fleet_steps.proofs.Shown.{opening_more}
use Rattle.live_fleet.proofs.opening.opening_devices.Goals as goal

pub loop-place-preserved : goal.loop-place-preserved
loop-place-preserved c =
    let place = c.loop-place.place in
    let device = c.in_ok-opening_device.field-0 in
    let filters = c.args.filters.now in
    let filter = c.index-filters-place.result in
    let read : slice_get filters place ≡ Some filter = slice_get_read filters (length filters) place filter refl c.loop-place-test.true c.index-filters-place.is in
    rw c.in_ok-push.ensures.items (opening_more filters place _ _ filter read c.loop-place.invariant.0 c.in_ok-opening_device.ensures.shown, all_push (λ (d : Kept). d.staged ≡ None) _ device c.loop-place.invariant.1 c.in_ok-opening_device.ensures.settled)
