use Rattle.std.proofs.Common.{ℕ, false, ◌∷◌, [], codes, sym, subst, Some, ◌∙◌}
use Rattle.std.specs.BTreeSet.{Updates}
use Rattle.std.specs.Ordering.{nat_cmp}
use Rattle.fleet_model.specs.declared.command.Command.TheVariants.{New}
use Rattle.script_reader.specs.Steps.{seen}
use Rattle.script_reader.specs.Saying.{command_said, creation_said, record_said}
use Rattle.script_reader.proofs.Commands.{first-known, last-taken, reads-fault, reads-same}
use Rattle.script_reader.proofs.Taking.{creation-first, creation-picture, creation-record, creation-said, lacks_new, put_back}
use Rattle.script_reader.proofs.reader.Reader.create.Goals as goal

pub returns-in_err-device : goal.returns-in_err-device
returns-in_err-device c =
    let old = c.args.self.now in
    let said = creation-first (seen old) c.args.name.now c.args.picture.now c.args.rating.now c.args.date.now c.args.words.now _ c.in_err-device.ensures.said in
    reads-fault old (codes "new" ∷ c.args.name.now ∷ c.args.picture.now ∷ c.args.rating.now ∷ c.args.date.now ∷ c.args.words.now ∷ []) [] _ c.from_residual.result _ c.from_residual.ensures.1 said

pub returns-in_err-picture : goal.returns-in_err-picture
returns-in_err-picture c =
    let old = c.args.self.now in
    let device = c.in_ok-device.device in
    let known = first-known (seen old) c.args.name.now device c.in_ok-device.ensures.said in
    reads-same old c.new_picture.new.self (codes "new" ∷ c.args.name.now ∷ c.args.picture.now ∷ c.args.rating.now ∷ c.args.date.now ∷ c.args.words.now ∷ []) [] (command_said (seen old) (creation_said (seen old) c.args.name.now c.args.picture.now (record_said c.args.rating.now c.args.date.now c.args.words.now))) c.from_residual-in_err-picture.result _ c.from_residual-in_err-picture.ensures.1
    (creation-picture (seen old) c.args.name.now c.args.picture.now c.args.rating.now c.args.date.now c.args.words.now device _ c.in_ok-device.ensures.room known c.in_err-picture.ensures.said)
    c.in_err-picture.ensures.kept

pub returns-in-Ok : goal.returns-in-Ok
returns-in-Ok c =
    let old = c.args.self.now in
    let device = c.in_ok-device.device in
    let number = c.in_ok-picture.picture in
    let fresh = sym c.in_ok-picture.ensures.said in
    let known = first-known (seen old) c.args.name.now device c.in_ok-device.ensures.said in
    let made = c.in-Ok.ensures.made in
    let said = creation-said (seen old) c.args.name.now c.args.picture.now c.args.rating.now c.args.date.now c.args.words.now device number made.content c.in_ok-device.ensures.room known fresh made.says in
    let lacks = lacks_new old c.new_picture.new.self c.args.name.now c.args.picture.now c.args.rating.now c.args.date.now c.args.words.now number fresh c.in_ok-picture.ensures.script c.in_ok-picture.ensures.made in
    (Some (New device number made.content), said, last-taken old c.new_picture.new.self c.make.new.self (codes "new" ∷ c.args.name.now ∷ c.args.picture.now ∷ c.args.rating.now ∷ c.args.date.now ∷ c.args.words.now ∷ []) [] (New device number made.content) lacks made.script c.make.ensures.pictures)

pub returns-in-Err : goal.returns-in-Err
returns-in-Err c =
    let old = c.args.self.now in
    let device = c.in_ok-device.device in
    let number = c.in_ok-picture.picture in
    let fresh = sym c.in_ok-picture.ensures.said in
    let known = first-known (seen old) c.args.name.now device c.in_ok-device.ensures.said in
    let removed = subst (λ (n : ℕ). Updates nat_cmp c.make.new.self.pictures c.remove.new.self n false) c.value.ensures.value c.remove.ensures.updates in (
      creation-record (seen old) c.args.name.now c.args.picture.now c.args.rating.now c.args.date.now c.args.words.now device number c.in-Err.refusal c.in_ok-device.ensures.room known fresh c.in-Err.ensures.refused,
      (
        c.in-Err.ensures.kept ∙ c.in_ok-picture.ensures.script,
        put_back old c.args.picture.now number c.new_picture.new.self.pictures c.make.new.self.pictures c.remove.new.self fresh c.in_ok-picture.ensures.made c.make.ensures.pictures removed,
      ),
    )
