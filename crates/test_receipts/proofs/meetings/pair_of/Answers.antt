use Rattle.std.proofs.Common.{arith}
use Rattle.test_receipts.proofs.Ready.{pair_may_meet}
use Rattle.test_receipts.proofs.meetings.pair_of.Goals as goal

pub returns : goal.returns
returns c = pair_may_meet c.args.devices.now c.requires c.index-devices-0.result c.index-devices-1.result _ _ c.new.result c.new-2.result (let two = c.if-devices-ne2.false in omega arith) c.index-devices-0.is c.index-devices-1.is c.in-Ok.ensures c.in-Ok-try_clone.ensures c.new.ensures c.new-2.ensures
