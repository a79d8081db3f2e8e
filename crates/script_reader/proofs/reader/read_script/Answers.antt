use Rattle.std.proofs.Common.{subst, sym, ap, ◌∙◌, arith}
use Rattle.std.proofs.lemmas.Result.{IfOk-weaker, IfErr-weaker}
use Rattle.script_reader.specs.Lines.{lines_of}
use Rattle.script_reader.specs.Reading.{script_of_lines, MayWantMemory}
use Rattle.script_reader.proofs.Whole.{script_of-large, script_of-not_utf8, script_of-text}
use Rattle.script_reader.proofs.reader.read_script.Goals as goal

pub returns-then-bytes-gt-MAX_TEXT_BYTES-clause-refused : goal.returns-then-bytes-gt-MAX_TEXT_BYTES-clause-refused
returns-then-bytes-gt-MAX_TEXT_BYTES-clause-refused c = λ _. script_of-large c.args.bytes.now (omega arith)

pub returns-in_default-clause-refused : goal.returns-in_default-clause-refused
returns-in_default-clause-refused c = λ _. script_of-not_utf8 c.args.bytes.now (omega arith) c.in_default.ensures.cases.0

pub returns-clause-read : goal.returns-clause-read
returns-clause-read c =
    let whole = script_of-text c.args.bytes.now (omega arith) c.in-Ok.ensures.cases.1 ∙ ap (λ t. script_of_lines (lines_of t)) (sym c.in-Ok.ensures.cases.0) in
    IfOk-weaker c.read_lines.result _ _ (λ script read. whole ∙ read) c.read_lines.ensures.read

pub returns-clause-refused : goal.returns-clause-refused
returns-clause-refused c =
    let whole = script_of-text c.args.bytes.now (omega arith) c.in-Ok.ensures.cases.1 ∙ ap (λ t. script_of_lines (lines_of t)) (sym c.in-Ok.ensures.cases.0) in
    IfErr-weaker c.read_lines.result _ _ (λ fault refused other. whole ∙ refused other) c.read_lines.ensures.refused

pub returns-clause-no_memory : goal.returns-clause-no_memory
returns-clause-no_memory c = λ refused. subst MayWantMemory c.in-Ok.ensures.cases.0 (c.read_lines.ensures.no_memory refused)
