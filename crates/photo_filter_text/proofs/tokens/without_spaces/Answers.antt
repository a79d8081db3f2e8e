use Rattle.std.proofs.Common.{◌++◌, ◌∙◌, ap, sym, arith}
use Rattle.std.proofs.lemmas.Str.{encode_ascii}
use Rattle.photo_filter_text.proofs.Cutting.{starts-token}
use Rattle.photo_filter_text.proofs.tokens.without_spaces.Goals as goal

pub returns-clause-filled : goal.returns-clause-filled
returns-clause-filled c =
    starts-token _ (λ rest e. c.in_default.ensures.cases rest (e ∙ ap (λ x. x ++ rest) (sym (encode_ascii 32 (omega arith)))))
