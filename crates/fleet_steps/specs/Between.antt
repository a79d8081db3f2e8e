-- What a command needs of a run's devices, and what it makes of them.
use Rattle.std.specs.Prelude.{◌≡◌, ℕ, ◌<◌, ◌≤◌, List, map, None}
use Rattle.std.specs.List.{AllZip, AllByRecursion}
use Rattle.photo_version.specs.Author.{epoch_of_author}
use Rattle.photo_model.specs.Device.{ModelDevice}
use Rattle.photo_device.specs.Device.{Kept, Shows, unstaged}
use Rattle.fleet_model.specs.Steps.{devices_after}
pub use Rattle.photo_pull.specs.MayPull.{MayPull}
use Rattle.fleet_model.specs.declared.command.Command.{Command}
use Rattle.fleet_model.specs.Ready.{IsReady}

-- the devices show model devices of which each may pull from each other
pub record AreReady (devices : List Kept) : Type 0 where
  pub models : List ModelDevice
  pub shown : AllZip Shows devices models
  pub ready : IsReady models

-- nothing is staged on any of the devices
abbrev pub AreSettled : List Kept → Type 0
AreSettled devices = AllByRecursion (λ d. d.staged ≡ None) devices

-- the devices are as they were, except for what is staged on them
abbrev pub AreAsTheyWere : List Kept → List Kept → Type 0
AreAsTheyWere old new = map unstaged new ≡ map unstaged old

-- each device may make one more version and begin one more epoch
abbrev pub HaveRoom : List Kept → Type 0
HaveRoom devices = AllByRecursion (λ d. (d.counter < 4_294_967_295) × (epoch_of_author d.author < 4_294_967_295)) devices

-- each device has made at most n versions in its epoch, and begun at most n epochs after its first
abbrev pub HaveMadeAtMost : ℕ → List Kept → Type 0
HaveMadeAtMost n devices = AllByRecursion (λ d. (d.counter ≤ n) × (epoch_of_author d.author ≤ n)) devices

-- The command has run: if the old devices show some model devices, the new ones show the command's effect on those.
abbrev pub HaveRun : Command → List Kept → List Kept → Type 0
HaveRun c old new = (models : List ModelDevice) → AllZip Shows old models → AllZip Shows new (devices_after models c)
