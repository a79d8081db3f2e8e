use Rattle.photo_record.specs.declared.record.Record.TheVariants.{Removed}
use Rattle.fleet_steps.proofs.Changed.{change_report}
use Rattle.fleet_steps.proofs.command.run_remove.Goals as goal

pub returns-clause-report : goal.returns-clause-report
returns-clause-report c =
    change_report c.report_on.result c.remove.result c.args.device.now c.remove.new.self c.args.picture Removed c.remove.ensures.shows c.remove.ensures.version c.remove.ensures.place c.remove.ensures.held c.remove.ensures.not_held c.remove.ensures.err c.report_on.ensures.ok
