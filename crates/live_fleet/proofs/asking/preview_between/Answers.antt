use Rattle.std.proofs.Common.{sym, subst, subst₂}
use Rattle.photo_filter_text.specs.Tree.{All}
use Rattle.photo_version.specs.Author.{author}
use Rattle.photo_model.specs.Device.{opening}
use Rattle.photo_device.specs.Device.{Kept, Shows}
use Rattle.photo_pull.specs.MayPull.{MayPull}
use Rattle.fleet_model.specs.Runs.{device_at}
use Rattle.fleet_model.proofs.Zipped.{zip_at}
use Rattle.fleet_steps.proofs.Between.{may_pull}
use Rattle.live_fleet.proofs.asking.preview_between.Goals as goal

pub preview-requires : goal.preview-requires
preview-requires c =
    let t = c.index-devices-target in
    let s = c.index-devices-source in
    subst₂ MayPull (sym t.is) (sym s.is) (may_pull c.args.devices.now c.args.target c.args.source t.result s.result c.requires.ready c.requires.target c.requires.source c.requires.differ)

pub returns : goal.returns
returns c = λ models shown.
    let devices = c.args.devices.now in
    let t = c.index-devices-target in
    let s = c.index-devices-source in
    let target : Shows t.result (device_at models c.args.target) = subst (λ (x : Kept). Shows x (device_at models c.args.target)) (sym t.is) (zip_at Shows devices models c.args.target t.result (opening (author c.args.target) All) shown c.requires.target) in
    let source : Shows s.result (device_at models c.args.source) = subst (λ (x : Kept). Shows x (device_at models c.args.source)) (sym s.is) (zip_at Shows devices models c.args.source s.result (opening (author c.args.source) All) shown c.requires.source) in
    c.in_ok-counts.ensures.counts (device_at models c.args.target) (device_at models c.args.source) target source
