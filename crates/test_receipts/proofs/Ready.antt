-- What the run of a script leaves ready for one more command.
use Rattle.std.proofs.Common.{◌≡◌, ℕ, ◌<◌, ◌≤◌, List, length, get_or, subst, sym, arith}
use Rattle.std.specs.List.{AllZip}
use Rattle.photo_version.specs.Author.{author}
use Rattle.photo_filter_text.specs.Tree.{All}
use Rattle.photo_model.specs.Device.{ModelDevice, opening}
use Rattle.photo_device.specs.Device.{Kept, Shows, unstaged}
use Rattle.photo_device.proofs.Staged.{shows_unstaged}
use Rattle.fleet_model.specs.Limits.{max_devices, max_commands}
use Rattle.fleet_model.specs.Contents.{Contents, NamesDevices, AreInRange}
use Rattle.fleet_model.specs.Runs.{run, device_at}
use Rattle.fleet_steps.specs.Between.{AreReady}
use Rattle.fleet_model.proofs.ReadyRuns.{run_is_ready}
use Rattle.fleet_model.proofs.Zipped.{zip_at, zip_long}
use Rattle.household_model.specs.Household.{new_replica}
use Rattle.receipted_device.specs.Shown.{KeptReplica, ShowsReplica}
use Rattle.receipted_device.specs.Meeting.{MayMeet}
use Rattle.receipted_device.proofs.Ready.{may_meet_shown, may_take_ready}

pub ready_after : (script : Contents) (devices : List Kept) → length script.names ≤ max_devices → length script.filters ≡ length script.names → length script.commands ≤ max_commands → NamesDevices script → AreInRange script → AllZip Shows devices (run script).devices → AreReady devices
ready_after script devices few filtered small known in_range shown = record {
  models = (run script).devices;
  shown = shown;
  ready = run_is_ready script (length script.commands) (record { devices = few; filtered = filtered; commands = small; known = known; in_range = in_range });
}

-- copies of two of the devices, without receipts, may meet
pub pair_may_meet : (devices : List Kept) (ready : AreReady devices) (cam srv : Kept) (copied_cam copied_srv : Kept) (r_cam r_srv : KeptReplica) → length devices ≡ 2
    → cam ≡ get_or devices 0 cam → srv ≡ get_or devices 1 srv → copied_cam ≡ unstaged cam → copied_srv ≡ unstaged srv
    → ((d : ModelDevice) → Shows copied_cam d → ShowsReplica r_cam (new_replica d)) → ((d : ModelDevice) → Shows copied_srv d → ShowsReplica r_srv (new_replica d)) → MayMeet r_srv r_cam
pair_may_meet devices ready cam srv copied_cam copied_srv r_cam r_srv two cam_is srv_is cam_copied srv_copied cam_shows srv_shows =
    let models = ready.models in
    let long = zip_long Shows devices models ready.shown in
    let shown = λ (k : ℕ) (d : Kept) (within : k < length devices). zip_at Shows devices models k d (opening (author k) All) ready.shown within in
    let cam_shown : Shows cam (device_at models 0) = subst (λ d. Shows d (device_at models 0)) (sym cam_is) (shown 0 cam (omega arith)) in
    let srv_shown : Shows srv (device_at models 1) = subst (λ d. Shows d (device_at models 1)) (sym srv_is) (shown 1 srv (omega arith)) in
    may_meet_shown r_srv r_cam (new_replica (device_at models 1)) (new_replica (device_at models 0))
    (srv_shows (device_at models 1) (shows_unstaged srv copied_srv (device_at models 1) srv_copied srv_shown))
    (cam_shows (device_at models 0) (shows_unstaged cam copied_cam (device_at models 0) cam_copied cam_shown))
    (may_take_ready models 1 0 ready.ready (omega arith) (omega arith) (λ e. absurd (omega (arith, e))))
