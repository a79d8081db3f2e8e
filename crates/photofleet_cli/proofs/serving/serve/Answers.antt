use Rattle.clap.specs.Words.{kind_of}
use Rattle.photofleet_cli.proofs.serving.serve.Goals as goal

pub returns-in-Err-clause-refused : goal.returns-in-Err-clause-refused
returns-in-Err-clause-refused g c = λ two.
    let other = c.refused.ensures.words two in
    (kind_of c.in-Err.refusal, other.0, c.in-Err.ensures.refusal other.1)
