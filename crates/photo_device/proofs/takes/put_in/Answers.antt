use Rattle.std.proofs.Common.{ap, ◌∙◌, rules, arith}
use Rattle.photo_device.specs.Held.{are_in_order}
use Rattle.photo_device.proofs.Order.{inserted_by_test, in_order-inserted}
use Rattle.photo_device.proofs.Taken.{is_new}
use Rattle.photo_device.proofs.takes.put_in.Goals as goal

pub returns : goal.returns
returns c =
    let xs = c.args.list.now.items in
    let has = c.requires in
    let put = inserted_by_test xs has.order c.args.held _ c.insert_behind.ensures.list (λ a r f h. search rules) in
    record { order = ap are_in_order put ∙ in_order-inserted c.args.held xs has.order (is_new c.args.held xs has.new); items = put; more = omega (arith, c.insert_behind.ensures.room) }
