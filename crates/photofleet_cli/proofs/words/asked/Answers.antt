use Rattle.std.proofs.lemmas.Result.{err_from_is_err_and}
use Rattle.photofleet_cli.proofs.CommandLines.{refused}
use Rattle.photofleet_cli.proofs.words.asked.Goals as goal

pub returns-in_err-matches-clause-refusal : goal.returns-in_err-matches-clause-refusal
returns-in_err-matches-clause-refusal g c =
    let p = err_from_is_err_and c.from_residual.result c.from_residual.ensures.1 in
    rw (p.1, p.2) (refused _ _ c.in_err-matches.field-0.0 c.requires c.in_err-matches.ensures.kinds)
