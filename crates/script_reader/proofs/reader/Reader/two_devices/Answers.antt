use Rattle.std.proofs.Common.{sym, arith}
use Rattle.std.proofs.lemmas.Bool.{eq-eqb, ne_eqb}
use Rattle.script_reader.specs.Steps.{seen}
use Rattle.script_reader.proofs.Arguments.{field, texts-two}
use Rattle.script_reader.proofs.Commands.{first-known, hands-fault}
use Rattle.script_reader.proofs.Moving.{two_devices-first, two_devices-second, two_devices-same, two_devices-said}
use Rattle.script_reader.proofs.reader.Reader.two_devices.Goals as goal

pub returns-in_err-target-clause-said : goal.returns-in_err-target-clause-said
returns-in_err-target-clause-said c =
    let old = seen c.args.self.now in
    let at = field c.args.arguments.now in
    rw (texts-two c.args.arguments.now (omega arith), two_devices-first old (at 0) (at 1) _ c.in_err-target.ensures.said) (hands-fault _ _ c.from_residual.ensures.1)

pub returns-in_err-source-clause-said : goal.returns-in_err-source-clause-said
returns-in_err-source-clause-said c =
    let old = seen c.args.self.now in
    let at = field c.args.arguments.now in
    let target = c.in_ok-target.target in
    let known = first-known old (at 0) target c.in_ok-target.ensures.said in
    rw (texts-two c.args.arguments.now (omega arith), two_devices-second old (at 0) (at 1) target _ c.in_ok-target.ensures.room known c.in_err-source.ensures.said) (hands-fault _ _ c.from_residual-in_err-source.ensures.1)

pub returns-then-target-source-clause-said : goal.returns-then-target-source-clause-said
returns-then-target-source-clause-said c =
    let old = seen c.args.self.now in
    let at = field c.args.arguments.now in
    let target = c.in_ok-target.target in
    let source = c.in_ok-source.source in
    let known = first-known old (at 0) target c.in_ok-target.ensures.said in
    rw (texts-two c.args.arguments.now (omega arith)) (sym (two_devices-same old (at 0) (at 1) target source c.in_ok-target.ensures.room known c.in_ok-source.ensures.said (eq-eqb target source (omega arith))))

pub returns-clause-said : goal.returns-clause-said
returns-clause-said c =
    let old = seen c.args.self.now in
    let at = field c.args.arguments.now in
    let target = c.in_ok-target.target in
    let source = c.in_ok-source.source in
    let known = first-known old (at 0) target c.in_ok-target.ensures.said in
    let apart = ne_eqb target source (λ e. omega arith) in
    rw (texts-two c.args.arguments.now (omega arith)) (sym (two_devices-said old (at 0) (at 1) target source c.in_ok-target.ensures.room known c.in_ok-source.ensures.said apart))
