use Rattle.std.proofs.Common.{◌∷◌, [], codes, refl, arith}
use Rattle.script_reader.specs.Steps.{seen}
use Rattle.script_reader.proofs.Arguments.{field, texts-one}
use Rattle.script_reader.proofs.Commands.{first-known, lacks-first, reads-fault}
use Rattle.script_reader.proofs.Knowing.{knowledge_line-first, knowledge_line-said}
use Rattle.script_reader.proofs.reader.Reader.read_knowledge.Goals as goal

pub returns-in_err-device : goal.returns-in_err-device
returns-in_err-device c =
    let old = c.args.self.now in
    let name = field c.args.arguments.now 0 in
    let said = knowledge_line-first (seen old) name _ c.in_err-device.ensures.said in
    rw (texts-one c.args.arguments.now (omega arith)) (reads-fault old (codes "knowledge" ∷ name ∷ []) [] _ c.from_residual.result _ c.from_residual.ensures.1 said)

pub returns : goal.returns
returns c =
    let old = c.args.self.now in
    let name = field c.args.arguments.now 0 in
    let device = c.in_ok-device.device in
    let said = knowledge_line-said (seen old) name device c.in_ok-device.ensures.room (first-known (seen old) name device c.in_ok-device.ensures.said) in
    rw (texts-one c.args.arguments.now (omega arith), said) (c.take.ensures old (codes "knowledge" ∷ name ∷ []) [] (lacks-first old (codes "knowledge" ∷ name ∷ []) [] refl refl refl refl) (refl, λ p. refl))
