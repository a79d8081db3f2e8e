use Rattle.std.proofs.Common.{arith}
use Rattle.photo_device.proofs.Counts.{count_of-append}
use Rattle.photo_device.proofs.device.Device.hand_over.Goals as goal

pub give_up-requires : goal.give_up-requires
give_up-requires c = λ v. omega (arith, c.self.invariant.device.once v, count_of-append)
