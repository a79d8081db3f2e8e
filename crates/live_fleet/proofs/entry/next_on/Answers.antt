use Rattle.std.proofs.Common.{◌≡◌, ◌∷◌, [], ◌∙◌, ap, sym, subst, get_or}
use Rattle.photo_filter_text.specs.Tree.{All}
use Rattle.photo_version.specs.Author.{author}
use Rattle.photo_model.specs.Device.{opening}
use Rattle.photo_device.specs.Device.{Kept, Shows}
use Rattle.fleet_model.specs.Runs.{device_at}
use Rattle.fleet_model.proofs.Zipped.{zip_at}
use Rattle.live_fleet.proofs.entry.next_on.Goals as goal

pub returns : goal.returns
returns c = λ models shown.
    let devices = c.args.devices.now in
    let k = c.args.place in
    let d = c.index-devices-from.result in
    let here : d ≡ get_or devices k d = c.index-devices-from.is ∙ ap (λ j. get_or devices j d) c.from.ensures in
    let shows : Shows d (device_at models k) = subst (λ (x : Kept). Shows x (device_at models k)) (sym here) (zip_at Shows devices models k d (opening (author k) All) shown c.requires.within) in
    ap (λ e. e ∷ []) (c.in_ok-held.ensures (device_at models k) shows)
