use Rattle.std.proofs.Common.{◌≡◌, ◌≤◌, length, sym, ap, arith}
use Rattle.std.proofs.lemmas.Bool.{eqb-false}
use Rattle.script_reader.specs.Steps.{seen, texts}
use Rattle.script_reader.proofs.Arguments.{length-texts}
use Rattle.script_reader.proofs.Commands.{first-known, gives-fault, gives-same}
use Rattle.script_reader.proofs.Moving.{device_and_filter-filtering, filtering-first, filtering-filter, filtering-said}
use Rattle.script_reader.proofs.reader.Reader.device_and_filter.Goals as goal

pub returns-in_err-device-clause-said : goal.returns-in_err-device-clause-said
returns-in_err-device-clause-said c =
    let old = seen c.args.self.now in
    let others = c.in-Some.others.now in
    let full : length others ≡ 0 → ⊥ = eqb-false (length others) 0 (sym c.if-is_empty.ensures) in
    let some : 1 ≤ length (texts others) = rw (length-texts others) (omega arith) in
    let name = c.in-Some.name.now.now in
    rw (ap texts c.in-Some.ensures.cases.0, device_and_filter-filtering old name (texts others) c.args.filter.now some)
    (gives-fault _ _ _ _ c.from_residual.ensures.1 (filtering-first old name c.args.filter.now _ c.in_err-device.ensures.said))

pub returns-in_err-filter-clause-said : goal.returns-in_err-filter-clause-said
returns-in_err-filter-clause-said c =
    let old = seen c.args.self.now in
    let others = c.in-Some.others.now in
    let full : length others ≡ 0 → ⊥ = eqb-false (length others) 0 (sym c.if-is_empty.ensures) in
    let some : 1 ≤ length (texts others) = rw (length-texts others) (omega arith) in
    let name = c.in-Some.name.now.now in
    let device = c.in_ok-device.device in
    let known = first-known old name device c.in_ok-device.ensures.said in
    rw (ap texts c.in-Some.ensures.cases.0, device_and_filter-filtering old name (texts others) c.args.filter.now some)
    (gives-same _ _ _ _ c.from_residual-in_err-filter.ensures.1 (filtering-filter old name c.args.filter.now device _ c.in_ok-device.ensures.room known c.in_err-filter.ensures))

pub returns-clause-said : goal.returns-clause-said
returns-clause-said c =
    let old = seen c.args.self.now in
    let others = c.in-Some.others.now in
    let full : length others ≡ 0 → ⊥ = eqb-false (length others) 0 (sym c.if-is_empty.ensures) in
    let some : 1 ≤ length (texts others) = rw (length-texts others) (omega arith) in
    let name = c.in-Some.name.now.now in
    let device = c.in_ok-device.device in
    let known = first-known old name device c.in_ok-device.ensures.said in
    rw (ap texts c.in-Some.ensures.cases.0, device_and_filter-filtering old name (texts others) c.args.filter.now some)
    (filtering-said old name c.args.filter.now device c.in_ok-filter.filter c.in_ok-device.ensures.room known c.in_ok-filter.ensures)
