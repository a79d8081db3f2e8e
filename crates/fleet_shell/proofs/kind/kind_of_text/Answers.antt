use Rattle.std.proofs.Common.{◌≡◌, lit<, ap, sym, ◌∙◌, length, rules}
use Rattle.std.specs.Prelude.{true, filter, ◌==◌}
use Rattle.std.specs.List.{slice_split}
use Rattle.std.proofs.lemmas.Iterator.Consumers.{YieldsList-end, YieldsList-so_far, YieldsList-turn}
use Rattle.std.proofs.lemmas.Iterator.Splits.{YieldsList-from_str_split}
use Rattle.script_reader.specs.Lines.{is_not_empty}
use Rattle.fleet_shell.specs.Kinds.{kind_of_fields}
use Rattle.fleet_shell.proofs.FirstFields.{first_field}
use Rattle.fleet_shell.proofs.kind.kind_of_text.Goals as goal

pub returns-then-not-is_empty : goal.returns-then-not-is_empty
returns-then-not-is_empty c =
    let filled : is_not_empty c.in-Some.piece.now ≡ true = search rules in
    let road = YieldsList-from_str_split 32 c.args.text.now (lit< tt) (cc) (cc) (cc) in
    let turn = YieldsList-turn road c.loop-piece.yielded _ c.loop-piece.yielded_by _ _ c.in-Some.piece c.in-Some.is c.next.ensures.steps in
    let front = YieldsList-so_far road c.loop-piece.yielded _ c.loop-piece.yielded_by in
    c.kind_of_word.ensures
    ∙ sym (first_field (slice_split (λ b. b == 32) c.args.text.now) (length c.loop-piece.yielded) c.in-Some.piece.now (ap (filter is_not_empty) (sym front) ∙ c.loop-piece.invariant) turn.0 turn.1 filled)

pub returns : goal.returns
returns c =
    let road = YieldsList-from_str_split 32 c.args.text.now (lit< tt) (cc) (cc) (cc) in
    let end = YieldsList-end road c.loop-piece.yielded _ c.loop-piece.yielded_by _ _ c.in-None.is c.next.ensures.steps in
    sym (ap kind_of_fields (ap (filter is_not_empty) (sym end.0) ∙ c.loop-piece.invariant))
