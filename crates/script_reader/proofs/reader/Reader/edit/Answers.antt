use Rattle.std.proofs.Common.{◌∷◌, [], codes, refl}
use Rattle.script_reader.specs.Steps.{seen}
use Rattle.script_reader.specs.Saying.{command_said, edition_said, record_said}
use Rattle.script_reader.proofs.Changing.{edition-first, edition-picture, edition-record, edition-said}
use Rattle.script_reader.proofs.Commands.{first-known, lacks-first, lacks_with_sets, reads-fault, reads-same}
use Rattle.script_reader.proofs.reader.Reader.edit.Goals as goal

pub returns-in_err-device : goal.returns-in_err-device
returns-in_err-device c =
    let old = c.args.self.now in
    let said = edition-first (seen old) c.args.name.now c.args.picture.now c.args.rating.now c.args.date.now c.args.words.now _ c.in_err-device.ensures.said in
    reads-fault old (codes "edit" ∷ c.args.name.now ∷ c.args.picture.now ∷ c.args.rating.now ∷ c.args.date.now ∷ c.args.words.now ∷ []) [] _ c.from_residual.result _ c.from_residual.ensures.1 said

pub returns-in_err-picture : goal.returns-in_err-picture
returns-in_err-picture c =
    let old = c.args.self.now in
    let device = c.in_ok-device.device in
    let known = first-known (seen old) c.args.name.now device c.in_ok-device.ensures.said in
    let said = edition-picture (seen old) c.args.name.now c.args.picture.now c.args.rating.now c.args.date.now c.args.words.now device _ c.in_ok-device.ensures.room known c.in_err-picture.ensures in
    reads-fault old (codes "edit" ∷ c.args.name.now ∷ c.args.picture.now ∷ c.args.rating.now ∷ c.args.date.now ∷ c.args.words.now ∷ []) [] _ c.from_residual-in_err-picture.result _ c.from_residual-in_err-picture.ensures.1 said

pub returns-in_err-record : goal.returns-in_err-record
returns-in_err-record c =
    let old = c.args.self.now in
    let device = c.in_ok-device.device in
    let known = first-known (seen old) c.args.name.now device c.in_ok-device.ensures.said in
    reads-same old (record old { words = c.record_of.new.sets }) (codes "edit" ∷ c.args.name.now ∷ c.args.picture.now ∷ c.args.rating.now ∷ c.args.date.now ∷ c.args.words.now ∷ []) [] (command_said (seen old) (edition_said (seen old) c.args.name.now c.args.picture.now (record_said c.args.rating.now c.args.date.now c.args.words.now))) c.from_residual-in_err-record.result _ c.from_residual-in_err-record.ensures.1
    (edition-record (seen old) c.args.name.now c.args.picture.now c.args.rating.now c.args.date.now c.args.words.now device c.in_ok-picture.picture _ c.in_ok-device.ensures.room known c.in_ok-picture.ensures c.in_err-record.ensures.said) (refl, λ p. refl)

pub returns : goal.returns
returns c =
    let old = c.args.self.now in
    let device = c.in_ok-device.device in
    let known = first-known (seen old) c.args.name.now device c.in_ok-device.ensures.said in
    let said = edition-said (seen old) c.args.name.now c.args.picture.now c.args.rating.now c.args.date.now c.args.words.now device c.in_ok-picture.picture c.in_ok-record.record c.in_ok-device.ensures.room known c.in_ok-picture.ensures c.in_ok-record.ensures.said in
    rw said (c.take.ensures old (codes "edit" ∷ c.args.name.now ∷ c.args.picture.now ∷ c.args.rating.now ∷ c.args.date.now ∷ c.args.words.now ∷ []) []
    (lacks_with_sets old old c.record_of.new.sets _ _ (lacks-first old (codes "edit" ∷ c.args.name.now ∷ c.args.picture.now ∷ c.args.rating.now ∷ c.args.date.now ∷ c.args.words.now ∷ []) [] refl refl refl refl)) (refl, λ p. refl))
