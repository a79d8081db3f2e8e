use Rattle.std.proofs.Common.{◌≡◌, take}
use Rattle.fleet_model.specs.Tallies.{tally_of_commands}
use Rattle.script_reader.proofs.tally.tally_of.Given as goal

abbrev pub invariant-loop-command : goal.invariant-loop-command
invariant-loop-command l = l.tally ≡ tally_of_commands (take l.command-index l.commands)
