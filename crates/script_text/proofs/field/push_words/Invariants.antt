use Rattle.std.proofs.Common.{string_bytes}
use Rattle.script_text.proofs.WordTurns.{AreWritten}
use Rattle.script_text.proofs.field.push_words.Given as goal

abbrev pub invariant-loop-i : goal.invariant-loop-i
invariant-loop-i l = AreWritten l.words (string_bytes l.fn.text) (string_bytes l.text) l.i
