use Rattle.std.proofs.Common.{ap, refl, subst, sym}
use Rattle.std.proofs.lemmas.Result.{IfErr-weaker, IfOk-weaker}
use Rattle.std.specs.Prelude.{Err, IsOk, Result}
use Rattle.fleet_model.specs.Contents.{Contents}
use Rattle.script_reader.specs.declared.fault.ScriptFault.{ScriptFault}
use Rattle.live_script.specs.Refused.{IsWhy}
use Rattle.live_script.proofs.plain.plain_text.Goals as goal

pub returns-in-Ok-clause-printed : goal.returns-in-Ok-clause-printed
returns-in-Ok-clause-printed c =
    IfOk-weaker c.output.result _ _ (λ text output. record { script = _; read = c.in-Ok.ensures.read; sound = c.accepted_stays_sound.ensures _ _ c.in-Ok.ensures.read; printed = output }) c.output.ensures.printed

pub returns-in-Ok-clause-refused : goal.returns-in-Ok-clause-refused
returns-in-Ok-clause-refused c =
    IfErr-weaker c.output.result _ _
    (λ refusal none. subst (IsWhy c.args.bytes.now) (sym none) (subst (λ (r : Result Contents ScriptFault). IsOk r) (sym c.in-Ok.ensures.read) refl))
    c.output.ensures.err

pub returns-in-Err-clause-refused : goal.returns-in-Err-clause-refused
returns-in-Err-clause-refused c = record { first = c.in-Err.ensures.refused; memory = λ e. c.in-Err.ensures.no_memory (ap Err e) }
