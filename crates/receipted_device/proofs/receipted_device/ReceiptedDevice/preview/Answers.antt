use Rattle.std.proofs.Common.{ap, sym, subst}
use Rattle.photo_device.specs.Device.{Kept, Shows}
use Rattle.photo_device.proofs.Staged.{shows_unstaged}
use Rattle.photo_pull.specs.MayPull.{MayPull}
use Rattle.receipted_device.specs.Shown.{KeptReplica}
use Rattle.receipted_device.specs.Settling.{settled}
use Rattle.receipted_device.proofs.Settles.{may_pull_settled}
use Rattle.receipted_device.proofs.Pulls.{device_shows}
use Rattle.receipted_device.proofs.receipted_device.ReceiptedDevice.preview.Goals as goal

pub preview-requires : goal.preview-requires
preview-requires c =
    subst (MayPull c.settle_device.new.device) (sym (ap (λ (r : KeptReplica). r.device) c.copy.view_is))
    (may_pull_settled c.args.self.now c.args.copy.now c.settle_device.new.device c.requires
    (λ d m shows. c.in_ok-settled.ensures.shows d m (shows_unstaged c.self.inside.device c.in_ok-device.device d c.in_ok-device.ensures (subst (λ (e : Kept). Shows e d) (sym (ap (λ (r : KeptReplica). r.device) c.self.view_is)) shows))))

pub returns-clause-counts : goal.returns-clause-counts
returns-clause-counts c = λ m r shows copied.
    c.in_ok-counts.ensures.counts (settled m.device r) r.device
    (c.in_ok-settled.ensures.shows m.device r (shows_unstaged c.self.inside.device c.in_ok-device.device m.device c.in_ok-device.ensures (device_shows c.self.inside.device c.args.self.now m (ap (λ (k : KeptReplica). k.device) c.self.view_is) shows)) copied)
    (device_shows c.copy.inside.device c.args.copy.now r (ap (λ (k : KeptReplica). k.device) c.copy.view_is) copied)
