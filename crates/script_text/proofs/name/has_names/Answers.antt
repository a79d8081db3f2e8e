use Rattle.std.proofs.Common.{sym, arith}
use Rattle.script_text.proofs.Differing.{name-more, name-again, names-named, names-apart}
use Rattle.script_text.proofs.name.has_names.Goals as goal

pub returns-then-is_among_first-clause-refused : goal.returns-then-is_among_first-clause-refused
returns-then-is_among_first-clause-refused c =
    λ named apart. absurd (name-again c.args.script.now.names c.loop-i.i c.name-name.result.now c.name-name.ensures (sym c.if-is_among_first.ensures) apart)

pub loop-i-preserved : goal.loop-i-preserved
loop-i-preserved c = name-more c.args.script.now.names c.loop-i.i c.name-name.result.now c.name-name.ensures c.loop-i.invariant (sym c.if-not-is_name.ensures) (sym c.if-is_among_first.ensures)

pub returns-clause-named : goal.returns-clause-named
returns-clause-named c = λ t. names-named c.args.script.now.names c.loop-i.i (omega arith) c.loop-i.invariant

pub returns-clause-apart : goal.returns-clause-apart
returns-clause-apart c = λ t. names-apart c.args.script.now.names c.loop-i.i (omega arith) c.loop-i.invariant
