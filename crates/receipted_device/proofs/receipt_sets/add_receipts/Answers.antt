use Rattle.std.proofs.Common.{◌||◌, ap, ◌∙◌, arith}
use Rattle.std.proofs.lemmas.List.{take_all}
use Rattle.photo_device.specs.Held.{entries_of}
use Rattle.household_model.specs.Replica as model
use Rattle.receipted_device.specs.Receipts.{receipts_in}
use Rattle.receipted_device.proofs.Adding.{added, added_none}
use Rattle.receipted_device.proofs.receipt_sets.add_receipts.Goals as goal

pub loop-held-init : goal.loop-held-init
loop-held-init c = λ q. let none = added_none c.args.giver q in grind arith

pub loop-held-preserved : goal.loop-held-preserved
loop-held-preserved c =
    added c.args.set.now c.loop-held.set c.insert.new.self c.args.giver c.args.handed.now c.loop-held.held-index c.held-item.result _
    (λ i. record { giver = c.args.giver; picture = c.picture.ensures i; version = c.version.ensures i }) c.loop-held-test.true c.held-item.is c.in_ok-insert.ensures.updates c.loop-held.invariant

pub returns : goal.returns
returns c = λ q.
    c.loop-held.invariant q ∙ ap (λ hs. receipts_in c.args.set.now.keys q || model.receipts_for c.args.giver (entries_of hs) q) (take_all c.loop-held.held-index c.args.handed.now c.loop-held-test.false)
