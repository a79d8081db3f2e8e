use Rattle.live_script.proofs.Others.{printed_first}
use Rattle.live_script.proofs.live.LiveScript.begin.Goals as goal

pub returns-in-Ok-told_from-clause-told : goal.returns-in-Ok-told_from-clause-told
returns-in-Ok-told_from-clause-told c = printed_first c.args.text.now c.in-Ok-told_from.begun.1.items _ c.accepted_stays_sound.ensures c.in-Ok.ensures.grown.read c.in-Ok-told_from.ensures.told
