use Rattle.std.proofs.Common.{◌∙◌}
use Rattle.receipted_device.proofs.SameReceipts.{has_same}
use Rattle.receipted_device.proofs.receipt_sets.has_receipt.Goals as goal

pub returns : goal.returns
returns c = c.contains.ensures ∙ has_same c.args.receipt c.args.set.now.keys
