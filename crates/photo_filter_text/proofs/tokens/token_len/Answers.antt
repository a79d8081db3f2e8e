use Rattle.std.proofs.Common.{◌∙◌, ap, max}
use Rattle.photo_filter_text.proofs.Cutting.{cut_len}
use Rattle.photo_filter_text.proofs.tokens.token_len.Goals as goal

pub returns : goal.returns
returns c =
    c.max.ensures ∙ ap (λ n. max n 1) c.unwrap_or.ensures ∙ cut_len c.args.text.now c.cut_place.result c.cut_place.ensures
