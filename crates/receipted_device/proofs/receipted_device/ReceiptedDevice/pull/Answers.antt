use Rattle.std.proofs.Common.{ap, sym, subst}
use Rattle.photo_device.specs.Device.{Kept, Shows}
use Rattle.photo_device.proofs.Staged.{shows_unstaged}
use Rattle.photo_pull.specs.MayPull.{MayPull}
use Rattle.household_model.specs.Replica as model
use Rattle.receipted_device.specs.Shown.{KeptReplica, ShowsReplica}
use Rattle.receipted_device.specs.Settling.{settled}
use Rattle.receipted_device.proofs.Settles.{may_pull_settled}
use Rattle.receipted_device.proofs.Pulls.{device_shows, pulls}
use Rattle.receipted_device.proofs.receipted_device.ReceiptedDevice.pull.Goals as goal

pub stage_pull-requires : goal.stage_pull-requires
stage_pull-requires c =
    subst (MayPull c.settle_device.new.device) (sym (ap (λ (r : KeptReplica). r.device) c.copy.view_is))
    (may_pull_settled c.args.self.now c.args.copy.now c.settle_device.new.device c.requires
    (λ d m shows. c.in_ok-settled.ensures.shows d m (shows_unstaged c.self.inside.device c.in_ok-device.device d c.in_ok-device.ensures (subst (λ (e : Kept). Shows e d) (sym (ap (λ (r : KeptReplica). r.device) c.self.view_is)) shows))))

pub returns-clause-shows : goal.returns-clause-shows
returns-clause-shows c =
    let is = pulls c.self.inside.device c.in_ok-device.device c.settle_device.new.device c.stage_pull.new.target c.commit.new.target c.copy.inside.device
    c.self.inside.receipts.keys c.in_ok-receipts.receipts.keys c.forget.new.set.keys c.author.result c.in_ok-found.found c.args.self.now c.args.copy.now
    (ap (λ (k : KeptReplica). k.device) c.self.view_is) c.in_ok-device.ensures (ap (λ (k : KeptReplica). k.receipts) c.self.view_is) (ap (λ (k : KeptReplica). k.device) c.copy.view_is) c.author.ensures
    c.in_ok-settled.ensures.shows c.in_ok-found.ensures.handed c.in_ok-found.ensures.staged c.commit.ensures.pulled c.in_ok-receipts.ensures c.forget.ensures in
    λ m r shows copied. subst (λ k. ShowsReplica k (model.after_pulling m r)) (sym c.exchange.ensures) (is m r shows copied)

pub returns-clause-counts : goal.returns-clause-counts
returns-clause-counts c = λ m r shows copied.
    c.in_ok-found.ensures.counts (settled m.device r) r.device
    (c.in_ok-settled.ensures.shows m.device r (shows_unstaged c.self.inside.device c.in_ok-device.device m.device c.in_ok-device.ensures (device_shows c.self.inside.device c.args.self.now m (ap (λ (k : KeptReplica). k.device) c.self.view_is) shows)) copied)
    (device_shows c.copy.inside.device c.args.copy.now r (ap (λ (k : KeptReplica). k.device) c.copy.view_is) copied)
