-- Machinery of the proofs: which parts of a script's text are within the limits. Only contracts of private functions cite this.
use Rattle.std.specs.Prelude.{ℕ, List, [], ◌∷◌}
use Rattle.photo_filter_text.specs.Tree.{Tree}
use Rattle.photo_filter_rules.specs.Filters.{IsFilterOf}
use Rattle.fleet_model.specs.Contents.{Contents}
use Rattle.fleet_model.specs.declared.command.Command.{Command}
use Rattle.script_text.specs.Texts.{line_of_command, line_of_device}
use Rattle.script_text.specs.Printable.{FitsFilter, FitsCommand, IsShort}

-- the text is a filter
abbrev pub IsSomeFilter : List ℕ → Type 0
IsSomeFilter text = (tree : Tree) × IsFilterOf text tree

-- the device's filter and its line are within the limits
abbrev pub FitsDevice : List ℕ → Tree → Type 0
FitsDevice name filter = FitsFilter filter × IsShort (line_of_device name filter)

abbrev pub FitDevices : List (List ℕ) → List Tree → Type 0
FitDevices [] filters = Unit {0}
FitDevices (name ∷ names) [] = Unit {0}
FitDevices (name ∷ names) (filter ∷ filters) = FitsDevice name filter × FitDevices names filters

-- the command and its line are within the limits
abbrev pub FitsLine : Contents → Command → Type 0
FitsLine s x = FitsCommand s x × IsShort (line_of_command s x)
