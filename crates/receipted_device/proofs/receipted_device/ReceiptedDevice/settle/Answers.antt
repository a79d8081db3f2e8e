use Rattle.std.proofs.Common.{ap}
use Rattle.receipted_device.specs.Shown.{KeptReplica}
use Rattle.receipted_device.proofs.Pulls.{settles}
use Rattle.receipted_device.proofs.receipted_device.ReceiptedDevice.settle.Goals as goal

pub returns-clause-shows : goal.returns-clause-shows
returns-clause-shows c =
    settles c.self.inside.device c.settle_device.new.device c.copy.inside.device c.self.inside.receipts.keys c.forget.new.set.keys c.args.self.now c.args.copy.now
    (ap (λ (r : KeptReplica). r.device) c.self.view_is) (ap (λ (r : KeptReplica). r.receipts) c.self.view_is) (ap (λ (r : KeptReplica). r.device) c.copy.view_is)
    c.in_ok-count.ensures.shows c.forget.ensures
