use Rattle.std.proofs.Common.{◌≡◌, ap, get_or, ◌∙◌, arith}
use Rattle.script_reader.proofs.Numbers.{number-is}
use Rattle.script_reader.proofs.field.number_of.Goals as goal

pub returns : goal.returns
returns c =
    let first : c.in_ok-first.field-0.now ≡ get_or c.args.text.now 0 0 = c.in_ok-first.ensures.item.3.1 0 ∙ ap (λ bs. get_or bs 0 0) c.as_bytes.ensures.value in
    number-is c.args.text.now c.parse.result c.ok.result c.parse.ensures.value.0 (omega arith) c.ok.ensures.value
