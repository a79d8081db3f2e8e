use Rattle.std.proofs.Common.{sym, ◌∙◌, arith}
use Rattle.photo_device.specs.Held.{entries_of}
use Rattle.fleet_model.specs.Sound.{is_kept}
use Rattle.fleet_audit.proofs.Shown.{kept_alike, one_fails, one_more, all_passed}
use Rattle.fleet_audit.proofs.whole.audit.Goals as goal

pub returns-then-not-is_sound : goal.returns-then-not-is_sound
returns-then-not-is_sound c = λ models all.
    one_fails (entries_of c.args.log.now) c.args.devices.now models all c.loop-device.device-index c.device-item.result (omega arith) (sym c.device-item.is) c.is_sound.result c.is_sound.ensures c.if-not-is_sound.true (is_kept (entries_of c.args.log.now) models)

pub loop-device-preserved : goal.loop-device-preserved
loop-device-preserved c = λ models all.
    one_more (entries_of c.args.log.now) c.args.devices.now models all c.loop-device.device-index c.device-item.result (omega arith) (sym c.device-item.is) c.is_sound.result c.is_sound.ensures c.if-not-is_sound.false (c.loop-device.invariant models all)

pub returns : goal.returns
returns c = λ models all.
    c.is_kept.ensures
    ∙ kept_alike c.args.log.now c.args.devices.now models all
    ∙ all_passed (entries_of c.args.log.now) c.args.devices.now models all c.loop-device.device-index (omega arith) (c.loop-device.invariant models all) (is_kept (entries_of c.args.log.now) models)
