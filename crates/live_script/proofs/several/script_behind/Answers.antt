use Rattle.std.proofs.Common.{◌∷◌, length-append, arith}
use Rattle.live_script.specs.Live.{with_line}
use Rattle.live_script.proofs.Readable.{behind_large, behind_odd}
use Rattle.live_script.proofs.several.script_behind.Goals as goal

pub returns-then-lines-saturating_sub-clause-refused : goal.returns-then-lines-saturating_sub-clause-refused
returns-then-lines-saturating_sub-clause-refused c = behind_large (with_line c.args.text.now c.args.lines.now) (omega (arith, length-append c.args.text.now (10 ∷ c.args.lines.now)))

pub returns-in-Err-clause-refused : goal.returns-in-Err-clause-refused
returns-in-Err-clause-refused c = behind_odd c.args.text.now c.args.lines.now (omega (arith, length-append c.args.text.now (10 ∷ c.args.lines.now))) c.in-Err.ensures.cases.0
