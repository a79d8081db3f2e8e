use Rattle.std.proofs.Common.{◌≡◌, ap}
use Rattle.photo_model.specs.Device.{next_version}
use Rattle.receipted_device.specs.Shown.{KeptReplica}
use Rattle.receipted_device.proofs.Events.{of_replica}
use Rattle.receipted_device.proofs.receipted_device.ReceiptedDevice.edit.Goals as goal

pub returns-clause-version : goal.returns-clause-version
returns-clause-version c = of_replica (λ answer m. answer.0 ≡ next_version m) c.edit.result _ c.args.self.now (ap (λ (r : KeptReplica). r.device) c.self.view_is) c.edit.ensures.version
