use Rattle.std.proofs.Common.{string_bytes}
use Rattle.script_text.proofs.LineTurns.{CommandsArePut}
use Rattle.script_text.proofs.text.push_commands.Given as goal

abbrev pub invariant-loop-i : goal.invariant-loop-i
invariant-loop-i l = CommandsArePut l.script l.script.commands (string_bytes l.fn.text) (string_bytes l.text) l.i
