use Rattle.std.proofs.Common.{arith}
use Rattle.script_reader.proofs.Whole.{script_of-large, script_of-not_utf8}
use Rattle.script_reader.proofs.growing.GrowingScript.of.Goals as goal

pub returns-then-text-gt-MAX_TEXT_BYTES-clause-refused : goal.returns-then-text-gt-MAX_TEXT_BYTES-clause-refused
returns-then-text-gt-MAX_TEXT_BYTES-clause-refused c = λ _. script_of-large c.args.text.now (omega arith)

pub returns-in_default-clause-refused : goal.returns-in_default-clause-refused
returns-in_default-clause-refused c = λ _. script_of-not_utf8 c.args.text.now (omega arith) c.in_default.ensures.cases.0
