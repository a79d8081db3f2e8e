-- Devices that a script opens with are ready for a pull, and stay ready after each command.
use Rattle.std.proofs.Common.{ℕ, ◌+◌, [], length, subst}
use Rattle.std.specs.List.{AllZip}
use Rattle.photo_device.specs.Device.{Shows}
use Rattle.fleet_model.specs.Contents.{IsWithin, record_of}
use Rattle.fleet_model.specs.Runs.{Fleet, opening_from}
use Rattle.fleet_model.specs.Steps.{devices_after}
use Rattle.fleet_model.specs.Ready.{IsReady}
use Rattle.fleet_model.proofs.Zipped.{zip_long}
use Rattle.fleet_model.proofs.Runs.{opening_at_most}
use Rattle.fleet_model.proofs.EachCommand.{by_command}
use Rattle.fleet_model.proofs.ReadyRuns.{opening_ready, any_fits, ready_kept}
use Rattle.fleet_steps.specs.Laws.{OpensReady, StaysReady}
use Rattle.fleet_steps.proofs.Runs.{shown_at_most, model_at_most}

-- devices of the program

pub opens_ready : OpensReady
opens_ready devices filters shown = (
  record { models = opening_from 0 filters; shown = shown; ready = opening_ready filters },
  shown_at_most devices (opening_from 0 filters) 0 shown (opening_at_most filters 0),
)

pub stays_ready : StaysReady
stays_ready old new c n are most few within ran =
    let models = are.models in
    let fleet : Fleet = record { devices = models; reports = []; log = [] } in
    let within' : IsWithin (length models) c = subst (λ (m : ℕ). IsWithin m c) (zip_long Shows old models are.shown) within in
    let done = by_command (λ r. Unit {0}) (λ log ds. IsReady ds) ready_kept fleet 1 c n are.ready within' (any_fits (record_of c)) few (model_at_most old models n are.shown most) in
    let shown : AllZip Shows new (devices_after models c) = ran models are.shown in (
      record { models = devices_after models c; shown = shown; ready = done.fact },
      shown_at_most new (devices_after models c) (n + 1) shown done.few,
    )
