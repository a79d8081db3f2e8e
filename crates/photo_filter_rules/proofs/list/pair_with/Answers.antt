use Rattle.std.proofs.Common.{[], ◌∷◌, ◌++◌, ap, ◌∙◌}
use Rattle.std.proofs.lemmas.Result.{err_from_is_err_and}
use Rattle.photo_filter_rules.specs.Alternatives.{both_of, possible}
use Rattle.photo_filter_rules.proofs.Pairing.{pair_more, pair_long, pair_end}
use Rattle.photo_filter_rules.proofs.list.pair_with.Goals as goal

pub loop-other-preserved : goal.loop-other-preserved
loop-other-preserved c = (
  pair_more (both_of c.args.alternative.now) _ c.loop-other.list.items c.push_possible.new.list.items c.args.others.now c.loop-other.other-index c.other-item.result c.loop-other.invariant.0 c.loop-other-test.true c.other-item.is
      (c.in_ok-push_possible.ensures.list ∙ ap (λ a. c.loop-other.list.items ++ possible (a ∷ [])) c.in_ok-meet.ensures),
  c.in_ok-push_possible.ensures.short,
)

pub returns-in_err-push_possible-clause-long : goal.returns-in_err-push_possible-clause-long
returns-in_err-push_possible-clause-long c =
    let p = err_from_is_err_and c.from_residual-in_err-push_possible.result c.from_residual-in_err-push_possible.ensures.1 in
    rw (p.1, p.2) (λ wide.
    pair_long (both_of c.args.alternative.now) _ c.loop-other.list.items c.args.others.now c.loop-other.other-index c.other-item.result c.loop-other.invariant.0 c.loop-other-test.true c.other-item.is
    (rw c.in_ok-meet.ensures at (c.in_err-push_possible.ensures.long wide)))

pub returns-clause-list : goal.returns-clause-list
returns-clause-list c = pair_end (both_of c.args.alternative.now) _ c.loop-other.list.items c.args.others.now c.loop-other.other-index c.loop-other.invariant.0 c.loop-other-test.false
