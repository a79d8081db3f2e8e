use Rattle.std.proofs.Common.{◌≡◌, true, false, max, get_or, arith, sym, ap, ◌∙◌}
use Rattle.std.specs.Option.{option_copied}
use Rattle.std.proofs.lemmas.List.{take_all}
use Rattle.photo_version.specs.Vector.{denotes}
use Rattle.fleet_audit.specs.Current.{counts, is_passed}
use Rattle.fleet_audit.proofs.Stretches.{one_counted, one_uncounted}
use Rattle.fleet_audit.proofs.current.outdated.Goals as goal
use Rattle.fleet_audit.proofs.current.outdated.Goals.{then-is_counted, else-is_counted}

pub loop-newer-preserved : goal.loop-newer-preserved
loop-newer-preserved c =
    let viewer = option_copied c.args.viewer in
    let made = c.args.made.now in
    let stretch = c.args.stretch.now in
    let i = c.loop-newer.newer-index in
    let w = c.newer-item.result in
    elim c.if-is_counted.branch [
      | then-is_counted b ↦
          let counted : counts viewer w ≡ true = sym c.is_counted.ensures ∙ b.if-is_counted.true in
          let is : c.if-is_counted.count ≡ max c.loop-newer.count b.made_with-then-is_counted.result = b.count-is ∙ b.max-count.ensures in
          let within = b.made_with-then-is_counted.ensures.within in
          rw is (record {
            within = omega arith;
            passed = one_counted viewer made stretch i c.loop-newer.count w (omega arith) (sym c.newer-item.is) c.loop-newer.invariant.passed counted b.made_with-then-is_counted.result (λ k d l. b.made_with-then-is_counted.ensures.known k d l ∙ ap (λ v. denotes v (get_or stretch k d).version) b.made_with.ensures);
          })
      | else-is_counted b ↦
          let uncounted : counts viewer w ≡ false = sym c.is_counted.ensures ∙ b.if-is_counted.false in
          rw b.count-is (record {
            within = c.loop-newer.invariant.within;
            passed = one_uncounted viewer made stretch i c.loop-newer.count w (omega arith) (sym c.newer-item.is) c.loop-newer.invariant.passed uncounted;
          })
    ]

pub returns-clause-passed : goal.returns-clause-passed
returns-clause-passed c = λ k d l.
    c.loop-newer.invariant.passed k d l
    ∙ ap (λ ms. is_passed (option_copied c.args.viewer) ms (get_or c.args.stretch.now k d).version) (take_all c.loop-newer.newer-index c.args.made.now (omega arith))
