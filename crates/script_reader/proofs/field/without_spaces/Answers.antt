use Rattle.std.proofs.Common.{◌++◌, ◌∙◌, ap, sym, arith}
use Rattle.std.proofs.lemmas.Str.{encode_ascii}
use Rattle.script_reader.proofs.Spaces.{without-none}
use Rattle.script_reader.proofs.field.without_spaces.Goals as goal

pub returns : goal.returns
returns c =
    sym (without-none _ (λ rest e. c.in_default.ensures.cases rest (e ∙ ap (λ x. x ++ rest) (sym (encode_ascii 32 (omega arith)))))) ∙ c.loop-more.invariant.1
