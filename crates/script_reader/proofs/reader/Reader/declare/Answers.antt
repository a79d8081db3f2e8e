use Rattle.std.proofs.Common.{None, refl, rules, arith}
use Rattle.script_reader.specs.Steps.{seen}
use Rattle.script_reader.proofs.Taking.{declaration-said, takes_device}
use Rattle.script_reader.proofs.reader.Reader.declare.Goals as goal

pub returns : goal.returns
returns c =
    λ more.
    let old = c.args.self.now in
    let name = c.args.name.now in
    let filter = c.args.filter.now in
    let tree = c.in_ok-filter.filter in
    let said = declaration-said (seen old) name filter tree (omega arith) (search rules) (search rules) c.in_ok-filter.ensures in
    let taken = takes_device old (record old { script = c.declare.new.self }) name filter more tree c.in_ok-filter.ensures c.in_ok-declare.ensures.ok refl in
    (None, said, taken)
