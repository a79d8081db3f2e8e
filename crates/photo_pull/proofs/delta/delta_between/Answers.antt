use Rattle.std.proofs.Common.{◌≡◌, ◌||◌, sym, ap, ◌∙◌, subst, rules}
use Rattle.std.specs.Prelude.{filter}
use Rattle.std.specs.List.{AllByRecursion}
use Rattle.photo_filter_rules.specs.Covers.{covers}
use Rattle.photo_device.specs.Held.{are_in_order}
use Rattle.photo_device.specs.Own.{HasEarlier}
use Rattle.photo_device.proofs.Order.{in_order-filter}
use Rattle.photo_pull.specs.OnHeld.{is_selected, has_below, dropped_stored, dropped_waiting}
use Rattle.photo_pull.proofs.Asked.{heard_earlier, waiting_earlier}
use Rattle.photo_pull.proofs.Wanted.{on_err, drops_stored, drops_waiting}
use Rattle.photo_pull.proofs.delta.delta_between.Goals as goal

pub returns-clause-delta : goal.returns-clause-delta
returns-clause-delta c =
    let stored : c.in_ok-stored.stored.items ≡ dropped_stored c.args.target.now c.args.source.now = search rules in
    let waiting : c.in_ok-waiting.waiting.items ≡ dropped_waiting c.args.target.now c.args.source.now = search rules in
    let heard = c.heard_of-heard.ensures ∙ (λ i. filter (λ w. is_selected (c.filter-3.ensures i) w || (has_below (stored i) w || has_below (waiting i) w)) (c.requires.stored i)) in
    record {
      ready = c.requires.ready;
      learned = c.covers-learned.ensures ∙ (λ i. covers (c.filter.ensures i) (c.filter-2.ensures i));
      dropped_stored = stored;
      dropped_waiting = waiting;
      heard = heard;
      handed = c.requires.waiting;
      heard_order = ap are_in_order c.heard_of-heard.ensures ∙ in_order-filter _ c.args.news.stored.items c.requires.order.stored;
      handed_order = c.requires.order.waiting;
      heard_earlier = subst (AllByRecursion HasEarlier) (sym heard) (heard_earlier c.args.target.now c.args.source.now c.requires.ready);
      handed_earlier = subst (AllByRecursion HasEarlier) (sym c.requires.waiting) (waiting_earlier c.args.target.now c.args.source.now c.requires.ready);
    }

pub returns-in_err-stored-clause-wanted : goal.returns-in_err-stored-clause-wanted
returns-in_err-stored-clause-wanted c = on_err _ (drops_stored c.args.target.now c.args.source.now c.requires.ready (search rules))

pub returns-in_err-waiting-clause-wanted : goal.returns-in_err-waiting-clause-wanted
returns-in_err-waiting-clause-wanted c = on_err _ (drops_waiting c.args.target.now c.args.source.now c.requires.ready (search rules))
