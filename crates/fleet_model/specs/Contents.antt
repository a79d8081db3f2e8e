-- A script: its devices' names and filters in order of declaration, and its commands in order.
use Rattle.std.specs.Prelude.{◌≡◌, ◌≢◌, ℕ, zero, suc, ◌<◌, ◌≤◌, List, length, Option, Some, None, IfSome, slice_get}
use Rattle.std.specs.List.{AllByRecursion}
use Rattle.photo_record.specs.declared.record.Record.{Record}
use Rattle.photo_filter_text.specs.Tree.{Tree}
use Rattle.photo_filter_rules.specs.Matching.{IsInRange}
use Rattle.fleet_model.specs.Limits.{max_devices, max_commands}
use Rattle.fleet_model.specs.declared.command.Command.{Command}
use Rattle.fleet_model.specs.declared.command.Command.TheVariants as command

pub record Contents : Type 0 where
  pub names : List (List ℕ)
  pub filters : List Tree
  pub commands : List Command

abbrev pub contents : List (List ℕ) → List Tree → List Command → Contents
contents names filters commands = record { names = names; filters = filters; commands = commands }

-- the command of that number; numbers begin with 1
abbrev pub command_of : Contents → ℕ → Option Command
command_of c zero = None
command_of c (suc n) = slice_get c.commands n

-- the devices of a command, by their places among the names: one, and for pulls and previews a second
abbrev pub devices_of : Command → ℕ × Option ℕ
devices_of (command.New device picture record_) = (device, None)
devices_of (command.Edit device picture record_) = (device, None)
devices_of (command.Remove device picture) = (device, None)
devices_of (command.Pull target source) = (target, Some source)
devices_of (command.Narrow device filter) = (device, None)
devices_of (command.Refilter device filter) = (device, None)
devices_of (command.Preview target source) = (target, Some source)
devices_of (command.List device) = (device, None)
devices_of (command.Conflicts device) = (device, None)
devices_of (command.Knowledge device) = (device, None)
devices_of (command.Knows device picture v) = (device, None)

-- the command's devices have places below `count`, and its second device differs from its first
abbrev pub IsWithin : ℕ → Command → Type 0
IsWithin count x = ((devices_of x).0 < count) × IfSome (devices_of x).1 (λ second. (second < count) × (second ≢ (devices_of x).0))

-- each command names declared devices only
abbrev pub NamesDevices : Contents → Type 0
NamesDevices c = AllByRecursion (IsWithin (length c.names)) c.commands

-- the record that a command gives a picture, if the command states one
abbrev pub record_of : Command → Option Record
record_of (command.New device picture content) = Some content
record_of (command.Edit device picture content) = Some content
record_of (command.Remove device picture) = None
record_of (command.Pull target source) = None
record_of (command.Narrow device filter) = None
record_of (command.Refilter device filter) = None
record_of (command.Preview target source) = None
record_of (command.List device) = None
record_of (command.Conflicts device) = None
record_of (command.Knowledge device) = None
record_of (command.Knows device picture v) = None

-- all ratings and days in the commands' records are in range
abbrev pub AreInRange : Contents → Type 0
AreInRange c = AllByRecursion (λ x. IfSome (record_of x) IsInRange) c.commands

-- what holds of every script
pub record IsScript (c : Contents) : Type 0 where
  pub devices : length c.names ≤ max_devices
  pub filtered : length c.filters ≡ length c.names
  pub commands : length c.commands ≤ max_commands
  pub known : NamesDevices c
  pub in_range : AreInRange c
