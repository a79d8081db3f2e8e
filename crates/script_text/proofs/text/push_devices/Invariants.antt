use Rattle.std.proofs.Common.{string_bytes}
use Rattle.script_text.proofs.LineTurns.{DevicesArePut}
use Rattle.script_text.proofs.text.push_devices.Given as goal

abbrev pub invariant-loop-i : goal.invariant-loop-i
invariant-loop-i l = DevicesArePut l.script.names l.script.filters (string_bytes l.fn.text) (string_bytes l.text) l.i
