use Rattle.std.proofs.Common.{◌∷◌, ◌++◌, ◌∙◌, ap, arith, drop, sym}
use Rattle.fleet_shell.proofs.Behind.{at_break}
use Rattle.fleet_shell.proofs.lines.before_last.Goals as goal

pub returns-in-Ok : goal.returns-in-Ok
returns-in-Ok c =
    at_break c.args.text.now c.args.start (omega arith) c.requires.within (c.requires.behind (omega arith)) ∙ ap (λ t. t ++ 10 ∷ drop c.args.start c.args.text.now) (sym c.in-Ok.ensures.text)
