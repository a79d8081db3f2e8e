use Rattle.std.proofs.Common.{◌∷◌, [], codes, refl, arith}
use Rattle.script_reader.specs.Steps.{seen}
use Rattle.script_reader.proofs.Arguments.{field, texts-two}
use Rattle.script_reader.proofs.Changing.{remove_line-first, remove_line-picture, remove_line-said}
use Rattle.script_reader.proofs.Commands.{first-known, lacks-first, reads-fault}
use Rattle.script_reader.proofs.reader.Reader.read_remove.Goals as goal

pub returns-in_err-device : goal.returns-in_err-device
returns-in_err-device c =
    let old = c.args.self.now in
    let at = field c.args.arguments.now in
    let said = remove_line-first (seen old) (at 0) (at 1) _ c.in_err-device.ensures.said in
    rw (texts-two c.args.arguments.now (omega arith)) (reads-fault old (codes "remove" ∷ at 0 ∷ at 1 ∷ []) [] _ c.from_residual.result _ c.from_residual.ensures.1 said)

pub returns-in_err-picture : goal.returns-in_err-picture
returns-in_err-picture c =
    let old = c.args.self.now in
    let at = field c.args.arguments.now in
    let device = c.in_ok-device.device in
    let known = first-known (seen old) (at 0) device c.in_ok-device.ensures.said in
    let said = remove_line-picture (seen old) (at 0) (at 1) device _ c.in_ok-device.ensures.room known c.in_err-picture.ensures in
    rw (texts-two c.args.arguments.now (omega arith)) (reads-fault old (codes "remove" ∷ at 0 ∷ at 1 ∷ []) [] _ c.from_residual-in_err-picture.result _ c.from_residual-in_err-picture.ensures.1 said)

pub returns : goal.returns
returns c =
    let old = c.args.self.now in
    let at = field c.args.arguments.now in
    let device = c.in_ok-device.device in
    let known = first-known (seen old) (at 0) device c.in_ok-device.ensures.said in
    let said = remove_line-said (seen old) (at 0) (at 1) device c.in_ok-picture.picture c.in_ok-device.ensures.room known c.in_ok-picture.ensures in
    rw (texts-two c.args.arguments.now (omega arith), said) (c.take.ensures old (codes "remove" ∷ at 0 ∷ at 1 ∷ []) [] (lacks-first old (codes "remove" ∷ at 0 ∷ at 1 ∷ []) [] refl refl refl refl) (refl, λ p. refl))
