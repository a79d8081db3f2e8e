-- What the run of a script leaves ready for one more command.
use Rattle.std.proofs.Common.{◌≡◌, ◌≤◌, true, ◌&&◌, List, [], ◌∷◌, length}
use Rattle.std.specs.Prelude.{nat_lt}
use Rattle.std.specs.List.{AllZip, list_all}
use Rattle.std.proofs.lemmas.Bool.{and_parts, ltb-true}
use Rattle.photo_version.specs.Author.{epoch_of_author}
use Rattle.photo_device.specs.Device.{Kept, Shows, unstaged}
use Rattle.fleet_model.specs.Limits.{max_devices, max_commands}
use Rattle.fleet_model.specs.Contents.{Contents, NamesDevices, AreInRange}
use Rattle.fleet_model.specs.Runs.{run}
use Rattle.fleet_steps.specs.Between.{AreReady, HaveRoom}
use Rattle.photo_pull.specs.MayPull.{MayPull}
use Rattle.fleet_model.proofs.ReadyRuns.{run_is_ready}

pub ready_after : (script : Contents) (devices : List Kept) → length script.names ≤ max_devices → length script.filters ≡ length script.names → length script.commands ≤ max_commands → NamesDevices script → AreInRange script → AllZip Shows devices (run script).devices → AreReady devices
ready_after script devices few filtered small known in_range shown = record {
  models = (run script).devices;
  shown = shown;
  ready = run_is_ready script (length script.commands) (record { devices = few; filtered = filtered; commands = small; known = known; in_range = in_range });
}

pub room_for_all : (devices : List Kept) → list_all (λ d. nat_lt d.counter 4_294_967_295 && nat_lt (epoch_of_author d.author) 4_294_967_295) devices ≡ true → HaveRoom devices
room_for_all [] h = tt
room_for_all (d ∷ ds) h =
    let r = and_parts _ _ h in
    let here = and_parts _ _ r.0 in
    ((ltb-true _ _ here.0, ltb-true _ _ here.1), room_for_all ds r.1)

-- a pull asks nothing of what is staged
pub pulls_as_copy : (target source : Kept) → MayPull target source → MayPull (unstaged target) source
pulls_as_copy target source h = record { differ = h.differ; one = h.one; own = h.own }

pub pulled_as_copy : (target source : Kept) → MayPull target source → MayPull target (unstaged source)
pulled_as_copy target source h = record { differ = h.differ; one = h.one; own = h.own }
