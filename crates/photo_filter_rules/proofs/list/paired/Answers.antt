use Rattle.std.proofs.lemmas.Result.{err_from_is_err_and}
use Rattle.photo_filter_rules.proofs.Pairing.{row_more, row_long, row_end}
use Rattle.photo_filter_rules.proofs.list.paired.Goals as goal

pub loop-alternative-preserved : goal.loop-alternative-preserved
loop-alternative-preserved c = (
  row_more _ c.loop-alternative.list.items c.pair_with.new.list.items c.args.left.now c.args.right.now c.loop-alternative.alternative-index c.alternative-item.result c.loop-alternative.invariant.0 c.loop-alternative-test.true c.alternative-item.is c.in_ok-pair_with.ensures.list,
  c.in_ok-pair_with.ensures.short,
)

pub returns-in_err-pair_with-clause-long : goal.returns-in_err-pair_with-clause-long
returns-in_err-pair_with-clause-long c =
    let p = err_from_is_err_and c.from_residual.result c.from_residual.ensures.1 in
    rw (p.1, p.2) (λ wide.
    row_long _ c.loop-alternative.list.items c.args.left.now c.args.right.now c.loop-alternative.alternative-index c.alternative-item.result c.loop-alternative.invariant.0 c.loop-alternative-test.true c.alternative-item.is (c.in_err-pair_with.ensures.long wide))

pub returns-clause-list : goal.returns-clause-list
returns-clause-list c = row_end _ c.loop-alternative.list.items c.args.left.now c.args.right.now c.loop-alternative.alternative-index c.loop-alternative.invariant.0 c.loop-alternative-test.false
