use Rattle.fleet_steps.proofs.Changed.{change_report}
use Rattle.fleet_steps.proofs.command.run_edit.Goals as goal

pub returns-clause-report : goal.returns-clause-report
returns-clause-report c =
    change_report c.report_on.result c.edit.result c.args.device.now c.edit.new.self c.args.picture c.args.content.now c.edit.ensures.shows c.edit.ensures.version c.edit.ensures.place c.edit.ensures.held c.edit.ensures.not_held c.edit.ensures.err c.report_on.ensures.ok
