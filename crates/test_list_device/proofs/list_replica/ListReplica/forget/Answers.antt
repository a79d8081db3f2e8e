use Rattle.std.proofs.Common.{not, rules}
use Rattle.std.proofs.lemmas.Fn.{filter_same}
use Rattle.household_model.specs.Replica.{is_obsolete}
use Rattle.test_list_device.specs.declared.list_replica.ListReceipt.{ListReceipt}
use Rattle.test_list_device.specs.Shown.{shown}
use Rattle.test_list_device.specs.Replicas.{receipt_of, replica_shown}
use Rattle.test_list_device.proofs.Receipts.{kept_receipts}
use Rattle.test_list_device.proofs.list_replica.ListReplica.forget.Goals as goal

pub returns : goal.returns
returns c =
    let copied = shown c.args.copy.now.device in
    let kept = kept_receipts (is_obsolete copied) c.args.self.now.receipts.items c.retain.new.self.items
    (filter_same _ (λ (r : ListReceipt). not (is_obsolete copied (receipt_of r))) _ (λ x b f k. search rules) _ _ c.retain.ensures.filtered) in
    λ i. record (replica_shown c.args.self.now) { receipts = kept i }
