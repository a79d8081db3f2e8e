use Rattle.std.proofs.Common.{get_or, subst, sym, arith}
use Rattle.photo_device.specs.Device.{Kept}
use Rattle.photo_pull.specs.MayPull.{MayPull}
use Rattle.fleet_steps.proofs.Between.{may_pull}
use Rattle.tool_scale_calls.proofs.pulls.on_two.Goals as goal

pub between-requires : goal.between-requires
between-requires c =
    let target = c.index-devices-1.result in
    let source = c.index-devices-0.result in
    subst (λ (d : Kept). MayPull d source) (sym c.index-devices-1.is)
    (subst (MayPull (get_or c.args.devices.now 1 target)) (sym c.index-devices-0.is)
    (may_pull c.args.devices.now 1 0 target source c.requires.ready (omega arith) (omega arith) (omega arith)))
