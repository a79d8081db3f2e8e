use Rattle.std.proofs.Common.{◌∙◌, ◌++◌, ap, map}
use Rattle.test_list_device.specs.Shown.{shown}
use Rattle.test_list_device.proofs.Receipts.{list_receipt, more_receipts}
use Rattle.test_list_device.proofs.list_replica.ListReplica.take.Goals as goal

pub returns-clause-shows : goal.returns-clause-shows
returns-clause-shows c =
    let t = shown c.args.self.now.device in
    let s = shown c.args.copy.now.device in
    let receipts = more_receipts t s c.args.self.now.receipts.items c.in_ok-gained.gained.items c.append.new.self.items c.in_ok-given.given.items
    (c.in_ok-gained.ensures ∙ ap (map (list_receipt s.author)) c.deref.ensures.value)
    c.in_ok-given.ensures
    (c.in_ok-append.ensures.items ∙ ap (λ list. list ++ c.in_ok-gained.gained.items) (c.in_ok-receipts.ensures.items ∙ c.deref-2.ensures.value)) in
    λ i. record { device = c.in_ok-counts.ensures.target i; receipts = receipts i }
