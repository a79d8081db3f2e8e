use Rattle.std.proofs.Common.{◌≡◌, ◌≤◌, ◌∙◌, ◌+◌, List, ◌++◌, length, take, drop, sym, ap, subst, refl, arith}
use Rattle.std.specs.List.{AllZip}
use Rattle.photo_device.specs.Device.{Kept, Shows}
use Rattle.fleet_model.specs.Contents.{IsWithin}
use Rattle.fleet_steps.specs.Between.{AreReady, AreSettled, HaveRoom}
use Rattle.fleet_steps.proofs.Between.{written_back}
use Rattle.photo_pull.proofs.Wanted.{on_err}
use Rattle.fleet_steps.proofs.Settled.{settled_same}
use Rattle.live_fleet.specs.Fleets.{KeptFleet, after_commands}
use Rattle.live_fleet.proofs.Histories.{came_ready, came_room, came_more, run_shows}
use Rattle.live_fleet.proofs.Named.{came_about}
use Rattle.live_fleet.proofs.fleet.Fleet.run.Goals as goal

pub run_and_keep-requires-clause-ready : goal.run_and_keep-requires-clause-ready
run_and_keep-requires-clause-ready c = subst AreReady (sym c.as_mut_slice-devices.ensures.value) (came_ready _ c.self.invariant)

pub run_and_keep-requires-clause-room : goal.run_and_keep-requires-clause-room
run_and_keep-requires-clause-room c =
    let count = ap (λ (f : KeptFleet). f.commands) c.self.view_is in
    let room = c.requires.room in
    subst HaveRoom (sym c.as_mut_slice-devices.ensures.value) (came_room _ c.self.invariant (omega arith))

pub invariant_of-self : goal.invariant_of-self
invariant_of-self c =
    let items = c.self.inside.devices.items in
    let new = c.run_and_keep.new.devices in
    let given = c.as_mut_slice-devices.ensures in
    let same : length new ≡ length items = c.run_and_keep.auto.devices ∙ ap length given.value in
    let whole : take c.self.inside.devices.len (new ++ drop (length new) items) ≡ new = written_back new items c.self.inside.devices.len same (sym given.len ∙ ap length given.value) in
    let before = subst AreSettled (sym given.value) c.self.invariant.settled in
    let kept : take c.self.inside.devices.len (new ++ drop (length new) items) ≡ items =
    whole ∙ settled_same _ new before (c.run_and_keep.ensures.settled before) c.in_err-report.ensures.devices_kept ∙ given.value in
    rw (kept, c.in_err-report.ensures.log_kept) c.self.invariant

pub invariant_of-self-2 : goal.invariant_of-self-2
invariant_of-self-2 c =
    let f : KeptFleet = record { devices = c.self.inside.devices.items; log = c.self.inside.log.items; commands = c.self.inside.commands } in
    let command = c.args.command.now in
    let items = c.self.inside.devices.items in
    let new = c.run_and_keep.new.devices in
    let given = c.as_mut_slice-devices.ensures in
    let same : length new ≡ length items = c.run_and_keep.auto.devices ∙ ap length given.value in
    let whole : take c.self.inside.devices.len (new ++ drop (length new) items) ≡ new = written_back new items c.self.inside.devices.len same (sym given.len ∙ ap length given.value) in
    let within : IsWithin (length items) command = subst (λ (x : KeptFleet). IsWithin (length x.devices) command) (sym c.self.view_is) c.requires.within in
    let count = ap (λ (x : KeptFleet). x.commands) c.self.view_is in
    let room = c.requires.room in
    came_more f _ (c.self.inside.commands + 1) command c.self.invariant within c.command_in_range.ensures (omega arith)
    (run_shows f _ new _ c.run_and_keep.new.log.items (c.self.inside.commands + 1) (c.self.inside.commands + 1) command given.value whole c.in_ok-report.ensures.devices c.in_ok-report.ensures.log)
    refl (subst AreSettled (sym whole) (c.run_and_keep.ensures.settled (subst AreSettled (sym given.value) c.self.invariant.settled)))

pub returns-in_err-report-clause-err : goal.returns-in_err-report-clause-err
returns-in_err-report-clause-err c =
    let items = c.self.inside.devices.items in
    let new = c.run_and_keep.new.devices in
    let given = c.as_mut_slice-devices.ensures in
    let same : length new ≡ length items = c.run_and_keep.auto.devices ∙ ap length given.value in
    let whole : take c.self.inside.devices.len (new ++ drop (length new) items) ≡ new = written_back new items c.self.inside.devices.len same (sym given.len ∙ ap length given.value) in
    let before = subst AreSettled (sym given.value) c.self.invariant.settled in
    let kept : take c.self.inside.devices.len (new ++ drop (length new) items) ≡ items =
    whole ∙ settled_same _ new before (c.run_and_keep.ensures.settled before) c.in_err-report.ensures.devices_kept ∙ given.value in
    on_err c.from_residual.result ((λ i. record { devices = kept i; log = c.in_err-report.ensures.log_kept i; commands = c.self.inside.commands }) ∙ c.self.view_is)

pub returns-clause-about : goal.returns-clause-about
returns-clause-about c = λ script enough.
    let f : KeptFleet = record { devices = c.self.inside.devices.items; log = c.self.inside.log.items; commands = c.self.inside.commands } in
    let came = c.self.invariant in
    let command = c.args.command.now in
    let shown = subst (λ (ds : List Kept). AllZip Shows ds (after_commands came.filters came.commands).devices) (sym c.as_mut_slice-devices.ensures.value) came.shown.devices in
    let within : IsWithin (length f.devices) command = subst (λ (x : KeptFleet). IsWithin (length x.devices) command) (sym c.self.view_is) c.requires.within in
    let enough' : length f.devices ≤ length script.names = subst (λ (x : KeptFleet). length x.devices ≤ length script.names) (sym c.self.view_is) enough in
    came_about f came command _ within (c.in_ok-report.ensures.report (after_commands came.filters came.commands).devices shown) script enough'
