use Rattle.std.proofs.Common.{ap, arith}
use Rattle.std.proofs.lemmas.Bool.Decides.{nat_tests}
use Rattle.photo_filter_text.specs.Tokens.{tokens_of}
use Rattle.photo_filter_text.proofs.Cutting.{cut-boundary, tokens-front}
use Rattle.photo_filter_text.proofs.tokens.next_token.Goals as goal

pub split_at-requires : goal.split_at-requires
split_at-requires c =
    cut-boundary c.without_spaces-text.result.now c.token_len.result c.without_spaces-text.utf8 (grind (arith, nat_tests)) c.token_len.ensures

pub returns-clause-token : goal.returns-clause-token
returns-clause-token c =
    let front = tokens-front c.without_spaces-text.result.now c.token_len.result c.without_spaces-text.ensures.filled (grind (arith, nat_tests)) c.token_len.ensures in
    let e = c.split_at.ensures.front in
    let f = ap tokens_of c.split_at.ensures.back in
    let g = c.without_spaces-text.ensures.tokens in
    cc
