use Rattle.std.proofs.Common.{ap}
use Rattle.std.specs.Prelude.{Err}
use Rattle.live_script.proofs.live.LiveScript.of.Goals as goal

pub returns-in-Err-clause-refused : goal.returns-in-Err-clause-refused
returns-in-Err-clause-refused c = record { first = c.in-Err.ensures.refused; memory = λ e. c.in-Err.ensures.no_memory (ap Err e) }
