use Rattle.std.proofs.Common.{◌∙◌, ap, codes}
use Rattle.std.specs.Prelude.{option_and_then}
use Rattle.std.specs.Str.Parse.{ParsesUnsigned, ExplainsUnsignedError, HasUnsignedDigitsIfOk}
use Rattle.clap.specs.Words.{found_of}
use Rattle.clap.proofs.WalkLemmas.{one_text-rows}
use Rattle.photofleet_cli.specs.Asked.{workers_of}
use Rattle.photofleet_cli.proofs.Workers.{nothing_given, number_given}
use Rattle.photofleet_cli.proofs.words.workers_in.Goals as goal

pub returns-in_err-get_one : goal.returns-in_err-get_one
returns-in_err-get_one c =
    let given = one_text-rows (found_of c.args.given.now) (codes "workers") in
    c.from_residual.ensures ∙ nothing_given (λ bs r. ParsesUnsigned 16 10 bs r × ExplainsUnsignedError 10 bs r × HasUnsignedDigitsIfOk bs r) (λ word r g. g.0) _ c.in_err-get_one.ensures.value
    ∙ ap (option_and_then workers_of) given

pub returns : goal.returns
returns c =
    let given = one_text-rows (found_of c.args.given.now) (codes "workers") in
    number_given (λ bs r. ParsesUnsigned 16 10 bs r × ExplainsUnsignedError 10 bs r × HasUnsignedDigitsIfOk bs r) (λ word r g. g.0) _ c.in_ok-get_one.field-0 c.new.result c.in_ok-get_one.ensures.none c.in_ok-get_one.ensures.value c.new.ensures
    ∙ ap (option_and_then workers_of) given
