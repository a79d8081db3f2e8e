use Rattle.std.proofs.Common.{sym}
use Rattle.photo_device.proofs.TableLemmas.{first_next, second_next}
use Rattle.photo_device.proofs.table.MergeCursor.next.Goals as goal

pub returns-then-is_handed_next-clause-next : goal.returns-then-is_handed_next-clause-next
returns-then-is_handed_next-clause-next c =
    second_next c.args.self.now.heard.now c.in_ok-held.held.now c.args.self.now.handed.now c.in_ok-held.others.now c.in_ok-held.ensures.cases.0 c.requires (sym c.if-is_handed_next.ensures)

pub returns-clause-next : goal.returns-clause-next
returns-clause-next c =
    first_next c.in_ok-held-2.held.now c.args.self.now.heard.now c.in_ok-held-2.others.now c.args.self.now.handed.now c.in_ok-held-2.ensures.cases.0 c.requires (sym c.if-is_handed_next.ensures)
