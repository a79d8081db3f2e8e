use Rattle.std.proofs.Common.{◌∙◌, sym, ap, length}
use Rattle.receipted_device.proofs.Settles.{shows_settled, settled_count}
use Rattle.receipted_device.proofs.meeting.settle_device.Goals as goal

pub returns-clause-shows : goal.returns-clause-shows
returns-clause-shows c = λ d m shows copied.
    shows_settled c.args.device.now c.args.copy.now d m c.receipted.ensures.device shows copied c.deref.result.now c.hand_over.new.self (c.deref.ensures.value ∙ c.in_ok-list.ensures.list) (c.hand_over.ensures.shows d shows)

pub returns-clause-count : goal.returns-clause-count
returns-clause-count c = λ d m shows copied.
    c.len.ensures ∙ sym c.deref.ensures.len ∙ ap length c.deref.ensures.value ∙ settled_count c.args.device.now c.args.copy.now d m c.receipted.ensures.device shows copied c.in_ok-list.list.items c.in_ok-list.ensures.list
