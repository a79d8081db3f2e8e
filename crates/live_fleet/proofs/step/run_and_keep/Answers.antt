use Rattle.std.proofs.Common.{◌≡◌, ◌∙◌, ◌++◌, ap}
use Rattle.std.specs.Option.{option_to_list}
use Rattle.fleet_model.specs.Contents.{devices_of}
use Rattle.photo_script.specs.Reports.{answer_of}
use Rattle.fleet_model.specs.Runs.{device_at}
use Rattle.fleet_model.specs.Steps.{effect_on}
use Rattle.live_fleet.specs.Entries.{entry_if_made, if_told}
use Rattle.live_fleet.proofs.Entries.{command_logs, logged_more}
use Rattle.live_fleet.proofs.step.run_and_keep.Goals as goal

pub returns-clause-log : goal.returns-clause-log
returns-clause-log c = λ models shown.
    let command = c.args.command.now in
    let told = answer_of c.in_ok-report.report in
    let held = c.in_ok-held.held in
    let kept : c.keep.new.log.items ≡ c.args.log.now.items ++ if_told told (option_to_list held) = c.keep.ensures ∙ ap (λ l. l ++ if_told told (option_to_list held)) c.reserve.ensures.items in
    logged_more c.args.log.now.items c.keep.new.log.items told held (entry_if_made command (device_at models (devices_of command).0)) (effect_on models command).entries
    kept (c.in_ok-held.ensures models shown) (command_logs models command told (c.in_ok-report.ensures.report models shown))
