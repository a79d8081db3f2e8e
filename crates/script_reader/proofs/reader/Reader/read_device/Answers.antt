use Rattle.std.proofs.Common.{◌≡◌, ◌≤◌, length, sym, ap, arith}
use Rattle.std.proofs.lemmas.Bool.{eqb-false}
use Rattle.script_reader.specs.Steps.{seen, texts}
use Rattle.script_reader.proofs.Arguments.{length-texts}
use Rattle.script_reader.proofs.Taking.{device_line-declaration}
use Rattle.script_reader.proofs.reader.Reader.read_device.Goals as goal

pub returns : goal.returns
returns c =
    let fields = ap texts c.in-Some.ensures.cases.0 in
    let others = c.in-Some.others.now in
    let full : length others ≡ 0 → ⊥ = eqb-false (length others) 0 (sym c.if-is_empty.ensures) in
    let some : 1 ≤ length (texts others) = rw (length-texts others) (omega arith) in
    let line = device_line-declaration (seen c.args.self.now) c.in-Some.name.now.now (texts others) c.args.filter.now (omega arith) some in
    rw (fields, line) (c.declare.ensures (texts others))
