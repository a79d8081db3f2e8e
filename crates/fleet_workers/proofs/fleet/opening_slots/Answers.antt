use Rattle.std.proofs.Common.{◌∙◌, ap}
use Rattle.std.specs.Prelude.{replicate}
use Rattle.photo_script.specs.declared.report.Report.TheVariants.{NotHeld}
use Rattle.fleet_workers.proofs.Opened.{opened}
use Rattle.fleet_workers.proofs.fleet.opening_slots.Goals as goal

pub returns-clause-slots : goal.returns-clause-slots
returns-clause-slots c =
    let of_script = c.commands_of-commands.ensures in
    opened c.args.script.now c.in_ok-devices.devices.items _ of_script.script c.in_ok-devices.ensures.shown c.in_ok-devices.ensures.long c.in_ok-devices-2.ensures
    (c.in_ok-reports.ensures ∙ ap (λ n. replicate n NotHeld) of_script.count) c.new.ensures.items
