-- Which commands may want memory. A refused command never does, and neither does a question with a yes or no answer.
use Rattle.std.specs.Prelude.{◌≡◌, true}
use Rattle.photo_filter_rules.specs.Covers.{covers}
use Rattle.photo_model.specs.Device.{ModelDevice, is_held}
use Rattle.fleet_model.specs.declared.command.Command.{Command}
use Rattle.fleet_model.specs.declared.command.Command.TheVariants as command

abbrev pub MayWantMemory : Command → ModelDevice → Type 0
MayWantMemory (command.New device picture content) m = Unit {0}
MayWantMemory (command.Edit device picture content) m = is_held m picture ≡ true
MayWantMemory (command.Remove device picture) m = is_held m picture ≡ true
MayWantMemory (command.Pull target source) m = Unit {0}
MayWantMemory (command.Narrow device tree) m = covers m.tree tree ≡ true
MayWantMemory (command.Refilter device tree) m = Unit {0}
MayWantMemory (command.Preview target source) m = Unit {0}
MayWantMemory (command.List device) m = Unit {0}
MayWantMemory (command.Conflicts device) m = Unit {0}
MayWantMemory (command.Knowledge device) m = Unit {0}
MayWantMemory (command.Knows device picture v) m = ⊥
