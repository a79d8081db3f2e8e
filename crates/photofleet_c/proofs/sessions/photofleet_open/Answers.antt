use Rattle.std.proofs.Common.{sym, subst}
use Rattle.photofleet_c.specs.Sessions.{Has}
use Rattle.photofleet_c.proofs.sessions.photofleet_open.Goals as goal

pub returns-in-Ok-clause-done : goal.returns-in-Ok-clause-done
returns-in-Ok-clause-done c = λ e.
    (c.of-in-Ok.result.value, c.of-in-Ok-2.ensures, subst (Has c.args.lines.now) (sym c.of-in-Ok.ensures) c.in-Ok.ensures.ok)
