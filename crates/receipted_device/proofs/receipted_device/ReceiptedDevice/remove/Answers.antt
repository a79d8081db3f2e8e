use Rattle.std.proofs.Common.{◌≡◌, ap}
use Rattle.photo_model.specs.Device.{next_version, new_place}
use Rattle.photo_record.specs.declared.record.Record.TheVariants.{Removed}
use Rattle.receipted_device.specs.Shown.{KeptReplica}
use Rattle.receipted_device.proofs.Events.{of_replica}
use Rattle.receipted_device.proofs.receipted_device.ReceiptedDevice.remove.Goals as goal

pub returns-clause-version : goal.returns-clause-version
returns-clause-version c = of_replica (λ answer m. answer.0 ≡ next_version m) c.remove.result _ c.args.self.now (ap (λ (r : KeptReplica). r.device) c.self.view_is) c.remove.ensures.version

pub returns-clause-place : goal.returns-clause-place
returns-clause-place c = of_replica (λ answer m. answer.1 ≡ new_place m Removed) c.remove.result _ c.args.self.now (ap (λ (r : KeptReplica). r.device) c.self.view_is) c.remove.ensures.place
