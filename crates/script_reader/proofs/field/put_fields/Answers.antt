use Rattle.std.proofs.Common.{◌≡◌, lit<, ap, ◌∙◌, rules}
use Rattle.std.specs.Prelude.{true, filter}
use Rattle.std.proofs.lemmas.Iterator.Consumers.{YieldsList-end, YieldsList-turn}
use Rattle.std.proofs.lemmas.Iterator.Splits.{YieldsList-from_str_split}
use Rattle.script_reader.specs.Lines.{is_not_empty}
use Rattle.script_reader.proofs.HasField.{always, field-in}
use Rattle.script_reader.proofs.field.put_fields.Goals as goal

pub returns-clause-fields : goal.returns-clause-fields
returns-clause-fields c =
    let road = YieldsList-from_str_split 32 c.args.line.now (lit< tt) (cc) (cc) (cc) in
    let end = YieldsList-end road c.loop-piece.yielded _ c.loop-piece.yielded_by _ _ c.in-None.is c.next.ensures.steps in
    c.loop-piece.invariant ∙ ap (filter is_not_empty) end.0

pub returns-in_err-push-clause-memory : goal.returns-in_err-push-clause-memory
returns-in_err-push-clause-memory c =
    let road = YieldsList-from_str_split 32 c.args.line.now (lit< tt) (cc) (cc) (cc) in
    let turn = YieldsList-turn road c.loop-piece.yielded _ c.loop-piece.yielded_by _ _ c.in-Some.piece c.in-Some.is c.next.ensures.steps in
    let filled : is_not_empty c.in-Some.piece.now ≡ true = search rules in
    always c.from_residual.result _ (field-in _ _ c.in-Some.piece.now turn.0 turn.1 filled)
