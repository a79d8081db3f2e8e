-- How a command changes the devices of a run, and how many versions they have made.
use Rattle.std.specs.Prelude.{ℕ, ◌≤◌, List, slice_set}
use Rattle.std.specs.Option.{option_map}
use Rattle.photo_version.specs.Author.{epoch_of_author}
use Rattle.photo_model.specs.Device.{ModelDevice}
use Rattle.fleet_model.specs.declared.command.Command.{Command}
use Rattle.fleet_model.specs.Contents.{devices_of}
use Rattle.fleet_model.specs.Runs.{Effect, effect, device_at, with_second}

-- the effect of a command on its devices
abbrev pub effect_on : List ModelDevice → Command → Effect
effect_on devices c = effect c (device_at devices (devices_of c).0) (option_map (device_at devices) (devices_of c).1)

-- the devices after the command
abbrev pub devices_after : List ModelDevice → Command → List ModelDevice
devices_after devices c =
    let done = effect_on devices c in
    with_second (devices_of c).1 done.second (slice_set devices (devices_of c).0 done.first)

-- the device made at most n versions in its epoch, and its epoch is at most n
pub record HasMadeAtMost (n : ℕ) (m : ModelDevice) : Type 0 where
  pub made : m.counter ≤ n
  pub begun : epoch_of_author m.author ≤ n
