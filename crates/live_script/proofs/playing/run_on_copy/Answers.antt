use Rattle.std.proofs.Common.{subst}
use Rattle.live_script.specs.Live.{ComesBehind, IsToldOf}
use Rattle.live_script.proofs.playing.run_on_copy.Goals as goal

pub returns-clause-told : goal.returns-clause-told
returns-clause-told c =
    subst (λ f. (b : ComesBehind c.args.said f c.args.script.now) → IsToldOf b.old c.args.script.now c.in_ok-text.text.items) c.in_ok-copy.ensures c.in_ok-text.ensures.told
