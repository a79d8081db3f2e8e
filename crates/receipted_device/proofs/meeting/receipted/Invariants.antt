use Rattle.std.proofs.Common.{◌≡◌, ◌++◌}
use Rattle.std.specs.Prelude.{filter}
use Rattle.photo_device.specs.declared.held.Held.{Held}
use Rattle.photo_device.specs.Held.{entry_of}
use Rattle.household_model.specs.Replica as model
use Rattle.receipted_device.specs.Receipts.{receipts_in}
use Rattle.receipted_device.proofs.meeting.receipted.Given as goal

abbrev pub invariant-loop-held : goal.invariant-loop-held
invariant-loop-held l =
    let is_given = λ (h : Held). receipts_in l.copy-inside.receipts.keys (model.receipt_for l.device.author (entry_of h)) in
    l.list.items ++ filter is_given l.held-iterator ≡ filter is_given l.device.out
