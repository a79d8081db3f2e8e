use Rattle.std.proofs.Common.{not, rules}
use Rattle.std.proofs.lemmas.Fn.{filter_same}
use Rattle.household_model.specs.Replica as model
use Rattle.receipted_device.specs.declared.receipt.Receipt.{Receipt}
use Rattle.receipted_device.specs.Receipts.{receipt_of}
use Rattle.receipted_device.proofs.Adding.{left_receipts}
use Rattle.receipted_device.proofs.receipt_sets.forget.Goals as goal

pub returns : goal.returns
returns c = λ m shows.
    left_receipts (model.is_obsolete m) c.args.set.now.keys c.retain.new.self.keys
    (filter_same _ (λ (r : Receipt). not (model.is_obsolete m (receipt_of r))) _ (λ x b f k. search rules) _ _ c.retain.ensures.filtered)
