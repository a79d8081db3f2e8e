use Rattle.std.proofs.Common.{◌≡◌, ◌||◌, take}
use Rattle.photo_device.specs.Held.{entries_of}
use Rattle.household_model.specs.Replica as model
use Rattle.receipted_device.specs.Receipts.{receipts_in}
use Rattle.receipted_device.proofs.receipt_sets.add_receipts.Given as goal

abbrev pub invariant-loop-held : goal.invariant-loop-held
invariant-loop-held l = (q : model.Receipt) → receipts_in l.set.keys q ≡ (receipts_in l.fn.set.keys q || model.receipts_for l.giver (entries_of (take l.held-index l.handed)) q)
