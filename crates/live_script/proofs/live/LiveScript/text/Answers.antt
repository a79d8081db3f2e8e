use Rattle.std.proofs.Common.{sym}
use Rattle.live_script.proofs.Played.{printed_live}
use Rattle.live_script.proofs.live.LiveScript.text.Goals as goal

pub returns-clause-printed : goal.returns-clause-printed
returns-clause-printed c =
    let live = c.self.invariant in
    rw (sym c.self.view_is) (printed_live c.self.inside.source.items _ live.grown.read (c.accepted_stays_sound.ensures _ _ live.grown.read) live.answered)
