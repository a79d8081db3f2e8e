use Rattle.std.proofs.Common.{arith}
use Rattle.photo_device.proofs.Taken.{one_given_up, all_given_up}
use Rattle.photo_device.proofs.held_set.HeldSet.give_up.Goals as goal

pub loop-held-preserved : goal.loop-held-preserved
loop-held-preserved c =
    rw (c.drop_version.ensures, c.version-in-loop-held.ensures) (one_given_up c.args.gone.now c.args.self.now c.loop-held.held-index c.held-item.result c.loop-held.self c.loop-held-test.true c.held-item.is c.loop-held.invariant)

pub returns : goal.returns
returns c = all_given_up c.args.gone.now c.args.self.now c.loop-held.self c.loop-held.held-index (omega (arith, c.loop-held-test.false)) c.loop-held.invariant
