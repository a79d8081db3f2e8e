use Rattle.std.proofs.Common.{◌≡◌, ◌++◌, get_or, ◌∙◌, ap, sym}
use Rattle.std.specs.Option.{option_to_list}
use Rattle.photo_device.specs.Held.{entries_of, find_version_of}
use Rattle.photo_device.specs.Device.{Kept}
use Rattle.fleet_model.specs.Contents.{devices_of}
use Rattle.photo_script.specs.Reports.{answer_of}
use Rattle.fleet_steps.proofs.Issued.{issued_is}
use Rattle.fleet_steps.proofs.logging.issued.Goals as goal

pub returns : goal.returns
returns c = λ models shown told.
    let command = c.args.command.now in
    let devices = c.args.devices.now in
    let d = c.index-devices-from.result in
    let p = c.in_ok-picture.picture in
    let v = c.in_ok-version.version in
    let place : c.from.result ≡ (devices_of command).0 = c.from.ensures ∙ c.devices_of-device.ensures.first in
    let here : d ≡ get_or devices (devices_of command).0 d = c.index-devices-from.is ∙ ap (λ k. get_or devices k d) place in
    ap (λ o. entries_of (option_to_list o)) (c.held_of.ensures.held ∙ ap (λ (x : Kept). find_version_of p v (x.store ++ x.out)) here)
    ∙ issued_is devices models d command (answer_of c.args.report.now) p v c.requires.0 (sym c.in_ok-picture.ensures) (sym c.in_ok-version.ensures) shown told
