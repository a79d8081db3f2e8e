use Rattle.std.proofs.Common.{◌≡◌, get_or, refl, sym, ◌∙◌, arith}
use Rattle.fleet_model.specs.Contents.{devices_of}
use Rattle.fleet_steps.proofs.Between.{one_shows, one_tells, one_wants}
use Rattle.fleet_steps.proofs.Settled.{one_as_it_was, one_settled}
use Rattle.fleet_steps.proofs.step.run_on.Goals as goal

pub returns-in_default-None-clause-devices : goal.returns-in_default-None-clause-devices
returns-in_default-None-clause-devices c =
    let devices = c.args.devices.now in
    let command = c.args.command.now in
    let d = c.index-devices-from.result in
    let place : c.from.result ≡ (devices_of command).0 = c.from.ensures ∙ c.devices_of.ensures.first in
    let alone = sym c.devices_of.ensures.second ∙ c.in_default-None.is-1 in
    one_shows c.run_command.result devices command c.from.result d (get_or devices c.from.result d) c.run_command.new.device alone place refl (omega arith) c.run_command.ensures.device

pub returns-in_default-None-clause-report : goal.returns-in_default-None-clause-report
returns-in_default-None-clause-report c =
    let devices = c.args.devices.now in
    let command = c.args.command.now in
    let d = c.index-devices-from.result in
    let place : c.from.result ≡ (devices_of command).0 = c.from.ensures ∙ c.devices_of.ensures.first in
    let alone = sym c.devices_of.ensures.second ∙ c.in_default-None.is-1 in
    one_tells c.run_command.result devices command c.from.result d (get_or devices c.from.result d) alone place refl (omega arith) c.run_command.ensures.report

pub returns-in_default-None-clause-memory : goal.returns-in_default-None-clause-memory
returns-in_default-None-clause-memory c =
    let devices = c.args.devices.now in
    let command = c.args.command.now in
    let d = c.index-devices-from.result in
    let place : c.from.result ≡ (devices_of command).0 = c.from.ensures ∙ c.devices_of.ensures.first in
    one_wants c.run_command.result devices command c.from.result d (get_or devices c.from.result d) place refl (omega arith) c.run_command.ensures.memory

pub returns-in_default-None-clause-err : goal.returns-in_default-None-clause-err
returns-in_default-None-clause-err c =
    let d = c.index-devices-from.result in
    one_as_it_was c.run_command.result c.args.devices.now c.from.result d (get_or c.args.devices.now c.from.result d) c.run_command.new.device refl c.run_command.ensures.err

pub returns-in_default-None-clause-staged : goal.returns-in_default-None-clause-staged
returns-in_default-None-clause-staged c =
    let devices = c.args.devices.now in
    let command = c.args.command.now in
    let d = c.index-devices-from.result in
    let place : c.from.result ≡ (devices_of command).0 = c.from.ensures ∙ c.devices_of.ensures.first in
    one_settled devices c.from.result d (get_or devices c.from.result d) c.run_command.new.device refl (omega arith) c.run_command.ensures.staged
