use Rattle.std.proofs.Common.{◌∙◌, ap}
use Rattle.live_script.proofs.Played.{at_last, shows_last, answered_last, told_last, still_last}
use Rattle.live_script.proofs.playing.text_of_last.Goals as goal

pub returns-in_err-text-clause-still : goal.returns-in_err-text-clause-still
returns-in_err-text-clause-still c = λ asks b.
    let last = at_last c.args.script.now c.commands-number.result c.command.result.now c.command.ensures.command c.commands-number.ensures.count in
    still_last c.args.script.now c.args.fleet.now b c.command.result.now last c.run.new.self asks c.in_ok-report.ensures.ran c.run.ensures.long

pub returns-clause-told : goal.returns-clause-told
returns-clause-told c = λ b.
    let last = at_last c.args.script.now c.commands-number.result c.command.result.now c.command.ensures.command c.commands-number.ensures.count in
    told_last c.args.script.now c.args.fleet.now b c.command.result.now last _ _ _ c.in_ok-report.ensures.report
    c.commands-number.ensures.count (ap (λ v. v.items) c.into_bytes.ensures.value ∙ c.in_ok-text.ensures)

pub returns-clause-answered : goal.returns-clause-answered
returns-clause-answered c =
    let last = at_last c.args.script.now c.commands-number.result c.command.result.now c.command.ensures.command c.commands-number.ensures.count in
    answered_last c.args.script.now c.args.fleet.now c.requires.behind c.command.result.now last _ c.in_ok-report.ensures.report

pub returns-clause-shown : goal.returns-clause-shown
returns-clause-shown c =
    let last = at_last c.args.script.now c.commands-number.result c.command.result.now c.command.ensures.command c.commands-number.ensures.count in
    shows_last c.args.script.now c.args.fleet.now c.requires.behind c.command.result.now last c.run.new.self c.in_ok-report.ensures.ran c.run.ensures.long

pub returns-clause-still : goal.returns-clause-still
returns-clause-still c = λ asks b.
    let last = at_last c.args.script.now c.commands-number.result c.command.result.now c.command.ensures.command c.commands-number.ensures.count in
    still_last c.args.script.now c.args.fleet.now b c.command.result.now last c.run.new.self asks c.in_ok-report.ensures.ran c.run.ensures.long
