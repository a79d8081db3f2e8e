use Rattle.std.proofs.Common.{subst}
use Rattle.std.specs.Prelude.{IfOk}
use Rattle.live_script.specs.Live.{ComesBehind, IsToldOf}
use Rattle.live_script.proofs.playing.ask_line.Goals as goal

pub returns-clause-told : goal.returns-clause-told
returns-clause-told c =
    subst (λ f. IfOk c.printed-2.result (λ text. (b : ComesBehind c.args.said f c.args.script.now) → IsToldOf b.old c.args.script.now text.items)) c.in_ok-copy.ensures c.printed-2.ensures.told
