-- When a session refuses a call, and with which fault.
use Rattle.std.specs.Prelude.{◌≡◌, ◌≢◌, ◌<◌, ◌≤◌, ◌↔◌, ℕ, length, Result, Err}
use Rattle.fleet_model.specs.declared.command.Command.{Command}
use Rattle.fleet_model.specs.Contents.{Contents, IsWithin}
use Rattle.live_fleet.specs.Fleets.{KeptFleet}
use Rattle.live_fleet.specs.declared.fault.FleetFault.{FleetFault}
use Rattle.live_fleet.specs.declared.fault.FleetFault.TheVariants.{NoMemory, NoDevice, NoCommand, Full}

-- every fault but `NoMemory` comes exactly where it is due
abbrev pub RefusesAsDue : {X : Type 0} → (FleetFault → Type 0) → Result X FleetFault → Type 0
RefusesAsDue IsDue result = (fault : FleetFault) → fault ≢ NoMemory → (result ≡ Err fault) ↔ IsDue fault

-- The faults due to a call whose devices exist where `there` holds. `NoDevice` is due where it doesn't hold. `Full` is due
-- where it holds and 4,294,967,295 commands have run.
abbrev pub IsDueUnless : Type 0 → KeptFleet → FleetFault → Type 0
IsDueUnless there f NoMemory = ⊥
IsDueUnless there f NoDevice = there → ⊥
IsDueUnless there f NoCommand = ⊥
IsDueUnless there f Full = there × (f.commands ≡ 4_294_967_295)

-- the faults due to a command; its devices exist where they are among the fleet's, and two of them have to differ
abbrev pub IsDueTo : Command → KeptFleet → FleetFault → Type 0
IsDueTo c f = IsDueUnless (IsWithin (length f.devices) c) f

-- the faults due to a question, which isn't counted as a command: `NoDevice` alone, as to a command
abbrev pub IsDueToQuestion : Command → KeptFleet → FleetFault → Type 0
IsDueToQuestion c f NoMemory = ⊥
IsDueToQuestion c f NoDevice = IsWithin (length f.devices) c → ⊥
IsDueToQuestion c f NoCommand = ⊥
IsDueToQuestion c f Full = ⊥

-- the script has a command of that number, and as many devices as the fleet
abbrev pub HasCommand : Contents → ℕ → KeptFleet → Type 0
HasCommand script number f = (0 < number) × (number ≤ length script.commands) × (length f.devices ≡ length script.names)

-- The faults due to running a script's command by its number. `NoCommand` is due where the script lacks that command or has
-- another number of devices. `Full` is due where it has both and 4,294,967,295 commands have run.
abbrev pub IsDueToNumber : Contents → ℕ → KeptFleet → FleetFault → Type 0
IsDueToNumber script number f NoMemory = ⊥
IsDueToNumber script number f NoDevice = ⊥
IsDueToNumber script number f NoCommand = HasCommand script number f → ⊥
IsDueToNumber script number f Full = HasCommand script number f × (f.commands ≡ 4_294_967_295)

-- the faults due to making so many devices: `Full` above 65,536
abbrev pub IsDueToDevices : ℕ → FleetFault → Type 0
IsDueToDevices count NoMemory = ⊥
IsDueToDevices count NoDevice = ⊥
IsDueToDevices count NoCommand = ⊥
IsDueToDevices count Full = 65_536 < count
