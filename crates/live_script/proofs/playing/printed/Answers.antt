use Rattle.std.proofs.lemmas.Result.{IfOk-weaker}
use Rattle.std.proofs.Common.{subst}
use Rattle.std.specs.Prelude.{IfSome}
use Rattle.live_script.specs.Live.{IsStill, IsToldOf, ShowsRun}
use Rattle.live_script.proofs.Played.{command_case, nothing_case, on_err_weaker}
use Rattle.live_script.proofs.playing.printed.Goals as goal

pub returns-in-Nothing-clause-told : goal.returns-in-Nothing-clause-told
returns-in-Nothing-clause-told c = nothing_case c.args.said c.args.fleet.now c.args.script.now _ c.in-Nothing.is c.new.ensures.items

pub returns-in-Command-clause-told : goal.returns-in-Command-clause-told
returns-in-Command-clause-told c =
    IfOk-weaker c.printed_of_last.result _ _ (λ text told. command_case c.args.said c.args.fleet.now c.args.script.now (λ old. IsToldOf old c.args.script.now text.items) c.in-Command.is told) c.printed_of_last.ensures.told

pub returns-in-Command-clause-still : goal.returns-in-Command-clause-still
returns-in-Command-clause-still c = λ asks.
    command_case c.args.said c.args.fleet.now c.args.script.now (λ old. IfSome c.printed_of_last.new.slot (ShowsRun old)) c.in-Command.is
    (c.printed_of_last.ensures.still (subst (λ s. IsStill s c.args.script.now) c.in-Command.is asks))

pub returns-in-Command-clause-kept : goal.returns-in-Command-clause-kept
returns-in-Command-clause-kept c =
    on_err_weaker c.printed_of_last.result _ _ (λ kept. command_case c.args.said c.args.fleet.now c.args.script.now (λ old. IfSome c.printed_of_last.new.slot (ShowsRun old)) c.in-Command.is kept) c.printed_of_last.ensures.kept
